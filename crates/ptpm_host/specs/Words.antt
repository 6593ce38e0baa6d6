-- Words as a host in C has them: a zero octet after each.
use Rattle.std.specs.Prelude.{◌≡◌, ℕ, ◌==◌, ◌&&◌, Bool, true, not, List, [], ◌∷◌, ◌++◌, flat_map}
use Rattle.std.specs.List.{list_all}
use Rattle.std.specs.Str.{is_utf8}

abbrev pub is_zero : ℕ → Bool
is_zero octet = octet == 0

-- a text in UTF-8 with no zero octet in it
abbrev pub is_word : List ℕ → Bool
is_word octets = is_utf8 octets && list_all (λ octet. not (is_zero octet)) octets

-- the octets are these words, and nothing else
pub record AreWords (words : List (List ℕ)) (octets : List ℕ) : Type 0 where
  pub each : list_all is_word words ≡ true
  pub whole : octets ≡ flat_map (λ word. word ++ 0 ∷ []) words

-- the octets are a word, its zero octet, and what comes after that
pub record BeginsWith (word more octets : List ℕ) : Type 0 where
  pub first : is_word word ≡ true
  pub whole : octets ≡ word ++ 0 ∷ more

-- a name and a value for each of ten members, the most that a dataField has
abbrev pub most_words : ℕ
most_words = 20
