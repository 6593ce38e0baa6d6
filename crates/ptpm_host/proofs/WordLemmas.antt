-- Words, and the octets that they are.
use Rattle.std.proofs.Common.{arith, ◌≡◌, ◌∙◌, ap, refl, sym, subst, ℕ, suc, ◌+◌, ◌<◌, Bool, true, false, cond, not, List, [], ◌∷◌, ◌++◌, length, get_or, drop, take, Some, None, append_assoc}
use Rattle.std.specs.List.{flat_map, list_all, position, position_or_len, prefix_len}
use Rattle.std.specs.Prelude.{nat_lt}
use Rattle.std.specs.Str.{is_utf8, IsUtf8}
use Rattle.std.proofs.lemmas.Bool.{and_from, and_parts, eqb-true}
use Rattle.std.proofs.lemmas.List.{append-nil, length-append}
use Rattle.std.proofs.lemmas.List.Quantifiers.{position-Some}
use Rattle.std.proofs.lemmas.List.Sums.{split_at_first}
use Rattle.std.proofs.lemmas.Str.{IsUtf8-from_is_utf8, is_utf8-from_IsUtf8}
use Rattle.ptpm_host.specs.Words.{AreWords, BeginsWith, is_zero}

-- ---- the first zero octet

passing_front : (p : ℕ → Bool) (xs : List ℕ) → list_all p (take (prefix_len p xs) xs) ≡ true
passing_front p [] = refl
passing_front p (x ∷ xs) = by (p x) refl (passing_front p xs)
  where
    by : (b : Bool) → p x ≡ b → list_all p (take (prefix_len p xs) xs) ≡ true → list_all p (take (cond b (1 + prefix_len p xs) 0) (x ∷ xs)) ≡ true
    by true e rest = let on : 1 + prefix_len p xs ≡ suc (prefix_len p xs) = omega arith in rw on (and_from _ _ e rest)
    by false e rest = refl

zero_after : (word more : List ℕ) → list_all (λ octet. not (is_zero octet)) word ≡ true → position_or_len is_zero (word ++ 0 ∷ more) ≡ length word
zero_after [] more all = refl
zero_after (c ∷ cs) more all =
    let parts = and_parts (not (is_zero c)) (list_all (λ octet. not (is_zero octet)) cs) all in
    rw (parts.0, zero_after cs more parts.1) (omega arith)

front_of : (word more : List ℕ) → take (length word) (word ++ 0 ∷ more) ≡ word
front_of [] more = refl
front_of (c ∷ cs) more = ap (λ (xs : List ℕ). c ∷ xs) (front_of cs more)

back_of : (word more : List ℕ) → drop (length word + 1) (word ++ 0 ∷ more) ≡ more
back_of [] more = refl
back_of (c ∷ cs) more = let on : suc (length cs) + 1 ≡ suc (length cs + 1) = omega arith in rw on (back_of cs more)

position_is : (xs : List ℕ) (i : ℕ) → position is_zero xs ≡ Some i → position_or_len is_zero xs ≡ i
position_is xs i = by (nat_lt (position_or_len is_zero xs) (length xs))
  where
    by : (b : Bool) → cond b (Some (position_or_len is_zero xs)) None ≡ Some i → position_or_len is_zero xs ≡ i
    by true e = cc
    by false e = absurd cc

-- ---- the first word

pub position_of_first : (octets word more : List ℕ) → BeginsWith word more octets → position is_zero octets ≡ Some (length word)
position_of_first octets word more begins =
    let at : position_or_len is_zero (word ++ 0 ∷ more) ≡ length word = zero_after word more (and_parts (is_utf8 word) (list_all (λ octet. not (is_zero octet)) word) begins.first).1 in
    let within : length word < length (word ++ 0 ∷ more) = grind (arith, length-append word (0 ∷ more)) in
    rw (begins.whole, at) (grind (arith, within))

pub first_is : (octets word more : List ℕ) (end : ℕ) → position is_zero octets ≡ Some end → BeginsWith word more octets
    → (take end octets ≡ word) × (drop (end + 1) octets ≡ more)
first_is octets word more end found begins =
    let at : length word ≡ end = let both = position_of_first octets word more begins in cc in
    rw (← at, begins.whole) (front_of word more, back_of word more)

pub first_at : (octets : List ℕ) (end : ℕ) → position is_zero octets ≡ Some end → IsUtf8 (take end octets)
    → BeginsWith (take end octets) (drop (end + 1) octets) octets
first_at octets end found utf8 =
    let at = position_is octets end found in
    let here = position-Some is_zero octets end 0 found in
    let zero : get_or octets end 0 ≡ 0 = eqb-true _ _ here.1 in
    let split = split_at_first is_zero octets 0 (rw at here.0) in
    record {
      first = and_from _ _ (is_utf8-from_IsUtf8 (take end octets) utf8) (rw (← at) (passing_front (λ octet. not (is_zero octet)) octets));
      whole = rw (at, zero) at split;
    }

pub first_utf8 : (octets word more : List ℕ) (end : ℕ) → position is_zero octets ≡ Some end → BeginsWith word more octets
    → IsUtf8 (take end octets)
first_utf8 octets word more end found begins =
    subst IsUtf8 (sym (first_is octets word more end found begins).0) (IsUtf8-from_is_utf8 word (and_parts (is_utf8 word) (list_all (λ octet. not (is_zero octet)) word) begins.first).0)

-- ---- words, one by one

pub words_onto : (octets word more : List ℕ) (words : List (List ℕ)) → BeginsWith word more octets → AreWords words more → AreWords (word ∷ words) octets
words_onto octets word more words begins are = record {
  each = and_from _ _ begins.first are.each;
  whole = begins.whole ∙ ap (λ (xs : List ℕ). word ++ 0 ∷ xs) are.whole ∙ sym (append_assoc word (0 ∷ []) (flat_map (λ w. w ++ 0 ∷ []) words));
}

first_of_words : (octets word : List ℕ) (words : List (List ℕ)) → AreWords (word ∷ words) octets
    → BeginsWith word (flat_map (λ w. w ++ 0 ∷ []) words) octets
first_of_words octets word words are = record {
  first = (and_parts _ _ are.each).0;
  whole = are.whole ∙ append_assoc word (0 ∷ []) (flat_map (λ w. w ++ 0 ∷ []) words);
}

-- the octets are these words and the rest
pub record Front (words : List (List ℕ)) (rest octets : List ℕ) : Type 0 where
  pub onto : (more : List (List ℕ)) → AreWords more rest → AreWords (words ++ more) octets
  pub of : (all : List (List ℕ)) → AreWords all octets → (more : List (List ℕ)) × (all ≡ words ++ more) × AreWords more rest

-- what begins with a word is no end
some_left : (word more rest : List ℕ) → rest ≡ word ++ 0 ∷ more → 0 < length rest
some_left word more rest is = grind (arith, is, length-append word (0 ∷ more))

module _ (words : List (List ℕ)) (rest octets : List ℕ) (front : Front words rest octets) where
  pub front_step : (word more : List ℕ) → BeginsWith word more rest
      → ((w m : List ℕ) → BeginsWith w m rest → (word ≡ w) × (more ≡ m)) → Front (words ++ word ∷ []) more octets
  front_step word more begins alone = record {
    onto = λ ws are. subst (λ (xs : List (List ℕ)). AreWords xs octets) (sym (append_assoc words (word ∷ []) ws)) (front.onto (word ∷ ws) (words_onto rest word more ws begins are));
    of = λ all are. by all (front.of all are).0 (front.of all are).1 (front.of all are).2;
  }
    where
      by : (all ws : List (List ℕ)) → all ≡ words ++ ws → AreWords ws rest
          → (after : List (List ℕ)) × (all ≡ (words ++ word ∷ []) ++ after) × AreWords after more
      by all [] is of_rest = absurd (omega (arith, some_left word more rest begins.whole, ap length of_rest.whole))
      by all (w ∷ ws) is of_rest =
          let same = alone w _ (first_of_words rest w ws of_rest) in (
            ws,
            is ∙ ap (λ (x : List ℕ). words ++ x ∷ ws) (sym same.0) ∙ sym (append_assoc words (word ∷ []) ws),
            record { each = (and_parts _ _ of_rest.each).1; whole = same.1 },
          )

  pub front_end : rest ≡ [] → AreWords words octets × ((all : List (List ℕ)) → AreWords all octets → words ≡ all)
  front_end none = (
    subst (λ (xs : List (List ℕ)). AreWords xs octets) (append-nil words) (front.onto [] (record { each = refl; whole = none })),
    λ all are. by all (front.of all are).0 (front.of all are).1 (front.of all are).2,
  )
    where
      by : (all ws : List (List ℕ)) → all ≡ words ++ ws → AreWords ws rest → words ≡ all
      by all [] is of_rest = sym (is ∙ append-nil words)
      by all (w ∷ ws) is of_rest =
          absurd (omega (arith, some_left w _ rest (first_of_words rest w ws of_rest).whole, ap length none))

  pub front_none : 0 < length rest → ((w m : List ℕ) → BeginsWith w m rest → ⊥) → (all : List (List ℕ)) → AreWords all octets → ⊥
  front_none some none all are = by (front.of all are).0 (front.of all are).2
    where
      by : (more : List (List ℕ)) → AreWords more rest → ⊥
      by [] of_rest = absurd (omega (arith, ap length of_rest.whole))
      by (w ∷ ws) of_rest = none w _ (first_of_words rest w ws of_rest)
