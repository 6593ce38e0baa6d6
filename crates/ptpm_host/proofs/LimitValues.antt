-- A value that is put among the values of a limit, and those that were there.
use Rattle.std.proofs.Common.{◌≡◌, ◌≢◌, ◌∙◌, ◌⊎◌, inl, inr, ap, arith, length, sym, ℕ, ◌+◌, ◌/◌, ◌%◌, ◌^◌, ◌<◌, ◌==◌, ◌&&◌, ◌||◌, nat_lt, Bool, true, false, bit_or, List, replicate, slice_index, slice_set}
use Rattle.std.specs.Int.{bit_at}
use Rattle.std.proofs.lemmas.Bool.{cases_eq, eq-eqb, ne_eqb}
use Rattle.std.proofs.lemmas.Bool.Decides.{nat_tests}
use Rattle.std.proofs.lemmas.List.{get_or-replicate, get_or-set_same, get_or-set_other}
use Rattle.std.proofs.lemmas.Nat.Bits.{bit_at_or, bit_at-pow_same, bit_at-pow_other, bit_at-zero}
use Rattle.ptpm_host.specs.Limits.{has_value}

abbrev pub with_value : ℕ → List ℕ → List ℕ
with_value n values = slice_set values (n / 8) (bit_or (slice_index values (n / 8)) (2 ^ (n % 8)))

bit_here : (x k : ℕ) → bit_at (bit_or x (2 ^ k)) k ≡ 1
bit_here x k = omega (arith, bit_at_or x (2 ^ k) k, bit_at-pow_same k)

bit_elsewhere : (x k i : ℕ) → i ≢ k → bit_at (bit_or x (2 ^ k)) i ≡ bit_at x i
bit_elsewhere x k i apart = omega (arith, bit_at_or x (2 ^ k) i, bit_at-pow_other k i apart)

same : (values : List ℕ) (n : ℕ) → n / 8 < length values → has_value n (with_value n values) ≡ true
same values n within =
    ap (λ o. bit_at o (n % 8) == 1) (get_or-set_same values (n / 8) _ 0 within)
    ∙ ap (λ b. b == 1) (bit_here (slice_index values (n / 8)) (n % 8))

-- another value of the same octet
beside : (values : List ℕ) (octet n : ℕ) → octet / 8 < length values → n / 8 ≡ octet / 8 → n % 8 ≢ octet % 8
    → has_value n (with_value octet values) ≡ has_value n values
beside values octet n within place apart =
    ap (λ p. bit_at (slice_index (with_value octet values) p) (n % 8) == 1) place
    ∙ ap (λ o. bit_at o (n % 8) == 1) (get_or-set_same values (octet / 8) _ 0 within)
    ∙ ap (λ b. b == 1) (bit_elsewhere (slice_index values (octet / 8)) (octet % 8) (n % 8) apart)
    ∙ ap (λ p. bit_at (slice_index values p) (n % 8) == 1) (sym place)

-- a value of another octet
apart_from : (values : List ℕ) (octet n : ℕ) → n / 8 ≢ octet / 8
    → has_value n (with_value octet values) ≡ has_value n values
apart_from values octet n apart = grind (arith, get_or-set_other)

other_value : (values : List ℕ) (octet n : ℕ) → octet / 8 < length values → n ≢ octet → (n / 8 ≡ octet / 8) ⊎ (n / 8 ≢ octet / 8)
    → has_value n (with_value octet values) ≡ has_value n values
other_value values octet n within other cases =
    elim cases [
      | inl place ↦ beside values octet n within place (λ same_bit. other (omega (arith, place, same_bit)))
      | inr apart ↦ apart_from values octet n apart
    ]

put_at : (values : List ℕ) (octet n : ℕ) → octet / 8 < length values → (n ≡ octet) ⊎ (n ≢ octet)
    → has_value n (with_value octet values) ≡ (n == octet || has_value n values)
put_at values octet n within cases =
    elim cases [
      | inl here ↦ ap (λ o. has_value n (with_value o values)) (sym here)
          ∙ same values n (rw here within)
          ∙ sym (ap (λ b. b || has_value n values) (eq-eqb n octet here))
      | inr other ↦ other_value values octet n within other (cases_eq (n / 8) (octet / 8))
          ∙ sym (ap (λ b. b || has_value n values) (ne_eqb n octet other))
    ]

-- a value is there if it was put there, or was there before
pub value_put : (values : List ℕ) (octet n : ℕ) → octet / 8 < length values
    → has_value n (with_value octet values) ≡ (n == octet || has_value n values)
value_put values octet n within = put_at values octet n within (cases_eq n octet)

-- ---- the values of a range are put one after another

none_below : (n : ℕ) (b : Bool) → false ≡ (nat_lt n 0 && b)
none_below n b = grind (arith, nat_tests)

pub none_yet : (of : ℕ → Bool) (n : ℕ) → n < 256 → has_value n (replicate 32 0) ≡ (nat_lt n 0 && of n)
none_yet of n small =
    let place : n / 8 < 32 = omega arith in
    ap (λ o. bit_at o (n % 8) == 1) (get_or-replicate 32 (n / 8) 0 0 place)
    ∙ ap (λ b. b == 1) (bit_at-zero (n % 8))
    ∙ none_below n (of n)

put_here : (of : ℕ → Bool) (n octet : ℕ) (before after : Bool) → (n ≡ octet) ⊎ (n ≢ octet)
    → before ≡ (nat_lt n octet && of n)
    → of octet ≡ true
    → after ≡ (n == octet || before)
    → after ≡ (nat_lt n (octet + 1) && of n)
put_here of n octet before after (inl here) is_before in_range is_after =
    let here_too : of n ≡ true = ap of here ∙ in_range in
    grind (arith, nat_tests)
put_here of n octet before after (inr other) is_before in_range is_after = grind (arith, nat_tests)

-- the value of this place is put, since it is of the range
pub one_more : (of : ℕ → Bool) (n octet : ℕ) (before after : Bool)
    → before ≡ (nat_lt n octet && of n)
    → of octet ≡ true
    → after ≡ (n == octet || before)
    → after ≡ (nat_lt n (octet + 1) && of n)
one_more of n octet before after = put_here of n octet before after (cases_eq n octet)

pass_here : (of : ℕ → Bool) (n octet : ℕ) (before : Bool) → (n ≡ octet) ⊎ (n ≢ octet)
    → before ≡ (nat_lt n octet && of n)
    → of octet ≡ false
    → before ≡ (nat_lt n (octet + 1) && of n)
pass_here of n octet before (inl here) is_before beyond =
    let here_too : of n ≡ false = ap of here ∙ beyond in
    grind (arith, nat_tests)
pass_here of n octet before (inr other) is_before beyond = grind (arith, nat_tests)

-- it is not put, since it is not of the range
pub passed_over : (of : ℕ → Bool) (n octet : ℕ) (before : Bool)
    → before ≡ (nat_lt n octet && of n)
    → of octet ≡ false
    → before ≡ (nat_lt n (octet + 1) && of n)
passed_over of n octet before = pass_here of n octet before (cases_eq n octet)
