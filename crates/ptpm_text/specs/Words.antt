-- The words of a line (this project's profile): what is between spaces and is not empty.
use Rattle.std.specs.Prelude.{ℕ, ◌==◌, nat_le, Bool, true, false, if◌then◌else◌, List, [], ◌∷◌, length, Option, Some, None}
use Rattle.std.specs.List.{filter, position_or_len, before_first, after_first}

-- the octet 0x20, and no other white space
abbrev pub space : ℕ
space = 32

abbrev pub onto_first : ℕ → List (List ℕ) → List (List ℕ)
onto_first octet [] = (octet ∷ []) ∷ []
onto_first octet (piece ∷ pieces) = (octet ∷ piece) ∷ pieces

-- a text cut at each space
abbrev pub pieces : List ℕ → List (List ℕ)
pieces [] = [] ∷ []
pieces (octet ∷ text) = if octet == space then [] ∷ pieces text else onto_first octet (pieces text)

abbrev pub is_not_empty : List ℕ → Bool
is_not_empty [] = false
is_not_empty (octet ∷ text) = true

unfoldable pub words : List ℕ → List (List ℕ)
words text = filter is_not_empty (pieces text)

-- ---- N words and no more

abbrev pub one_word : List (List ℕ) → Option (List ℕ)
one_word (a ∷ []) = Some a
one_word _ = None

abbrev pub two_words : List (List ℕ) → Option (List ℕ × List ℕ)
two_words (a ∷ b ∷ []) = Some (a, b)
two_words _ = None

abbrev pub three_words : List (List ℕ) → Option (List ℕ × List ℕ × List ℕ)
three_words (a ∷ b ∷ c ∷ []) = Some (a, b, c)
three_words _ = None

-- the first two of two or more
abbrev pub first_words : List (List ℕ) → Option (List ℕ × List ℕ)
first_words (a ∷ b ∷ more) = Some (a, b)
first_words _ = None

-- ---- a text cut in two

-- a text cut at the first of an octet; there is none if the octet is not in it
abbrev pub cut_at : ℕ → List ℕ → Option (List ℕ × List ℕ)
cut_at octet text =
    if nat_le (length text) (position_or_len (λ b. b == octet) text) then None
    else Some (before_first (λ b. b == octet) text, after_first (λ b. b == octet) text)
