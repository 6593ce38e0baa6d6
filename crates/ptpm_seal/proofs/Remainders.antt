-- A remainder is not lost: two that differ still do after the same octets.
use Rattle.std.proofs.Common.{◌≡◌, ℕ, List, [], ◌∷◌, ◌++◌, refl, arith, ◌≢◌, zero, suc, ◌-◌, ◌/◌, ◌%◌, ◌^◌, ◌<◌, ◌⊎◌, inl, inr, sym, ◌∙◌, ap, bit_xor}
use Rattle.ptpm_seal.specs.Crc.{after, after_octet, AreOctets, after_bit, after_four, crc_of, polynomial}
use Rattle.std.proofs.Math.Nat.{pow-suc}
use Rattle.std.proofs.lemmas.Nat.{xor_comm, xor_mod, xor_of_32, xor_shr}

-- ---- the remainder of octets in two parts

pub after_append : (r : ℕ) (xs ys : List ℕ) → after r (xs ++ ys) ≡ after (after r xs) ys
unfolding after
after_append r [] ys = refl
after_append r (x ∷ xs) ys = after_append (after_octet r x) xs ys

-- ---- one number added twice

same_bit : (a b p : ℕ) → a < 2 → b < 2 → p < 2 → bit_xor a p ≡ bit_xor b p → a ≡ b
same_bit zero zero p l m n e = refl
same_bit (suc zero) (suc zero) p l m n e = refl
same_bit zero (suc zero) zero l m n e = absurd (omega (arith, e))
same_bit zero (suc zero) (suc zero) l m n e = absurd (omega (arith, e))
same_bit (suc zero) zero zero l m n e = absurd (omega (arith, e))
same_bit (suc zero) zero (suc zero) l m n e = absurd (omega (arith, e))
same_bit (suc (suc a)) b p l m n e = absurd (omega (arith, l))
same_bit a (suc (suc b)) p l m n e = absurd (omega (arith, m))
same_bit a b (suc (suc p)) l m n e = absurd (omega (arith, n))

pub same-xor : (n a b p : ℕ) → a < 2 ^ n → b < 2 ^ n → bit_xor a p ≡ bit_xor b p → a ≡ b
same-xor zero a b p l m e = omega (arith, l, m)
same-xor (suc n) a b p l m e =
    let low : a % 2 ≡ b % 2 =
    same_bit (a % 2) (b % 2) (p % 2) (omega arith) (omega arith) (omega arith)
    (sym (xor_mod a p 1) ∙ ap (λ (x : ℕ). x % 2) e ∙ xor_mod b p 1) in
    let high : a / 2 ≡ b / 2 =
    same-xor n (a / 2) (b / 2) (p / 2) (halved n a l) (halved n b m)
    (sym (xor_shr a p 1) ∙ ap (λ (x : ℕ). x / 2) e ∙ xor_shr b p 1) in
    omega (arith, low, high)
  where
    halved : (n a : ℕ) → a < 2 ^ suc n → a / 2 < 2 ^ n
    halved n a l = omega (arith, l, pow-suc 2 n)

-- ---- one bit

odd : (r : ℕ) → r % 2 ≡ 1 → after_bit r ≡ bit_xor (r / 2) polynomial
unfolding after_bit
odd r e = rw e refl

even : (r : ℕ) → r % 2 ≡ 0 → after_bit r ≡ r / 2
unfolding after_bit
even r e = rw e refl

cases : (r : ℕ) → (r % 2 ≡ 0) ⊎ (r % 2 ≡ 1)
cases r = grind arith

below : (r : ℕ) → r < 2 ^ 32 → after_bit r < 2 ^ 32
below r l = elim (cases r) [
  | inl e ↦ omega (arith, even r e, l)
  | inr e ↦ omega (arith, odd r e, xor_of_32 (r / 2) polynomial (omega (arith, l)) (omega arith))
]

-- the bit that left is the highest of what stays
left : (r : ℕ) → r < 2 ^ 32 → after_bit r / 2 ^ 31 ≡ r % 2
left r l = elim (cases r) [
  | inl e ↦ omega (arith, even r e, l, e)
  | inr e ↦ ap (λ (x : ℕ). x / 2 ^ 31) (odd r e) ∙ xor_shr (r / 2) polynomial 31 ∙ ap (λ (x : ℕ). bit_xor x 1) (none r l) ∙ sym e
]
  where
    none : (r : ℕ) → r < 2 ^ 32 → r / 2 / 2 ^ 31 ≡ 0
    none r l = omega (arith, l)

bit : (r s : ℕ) → r < 2 ^ 32 → s < 2 ^ 32 → after_bit r ≡ after_bit s → r ≡ s
bit r s l m e =
    let low : r % 2 ≡ s % 2 = sym (left r l) ∙ ap (λ (x : ℕ). x / 2 ^ 31) e ∙ left s m in
    let high : r / 2 ≡ s / 2 = elim (cases r) [
      | inl z ↦ sym (even r z) ∙ e ∙ even s (sym low ∙ z)
      | inr o ↦ same-xor 32 (r / 2) (s / 2) polynomial (omega (arith, l)) (omega (arith, m)) (sym (odd r o) ∙ e ∙ odd s (sym low ∙ o))
    ] in
    omega (arith, low, high)

four : (r s : ℕ) → r < 2 ^ 32 → s < 2 ^ 32 → after_four r ≡ after_four s → r ≡ s
four r s l m e =
    let r1 = below r l in
    let r2 = below _ r1 in
    let r3 = below _ r2 in
    let s1 = below s m in
    let s2 = below _ s1 in
    let s3 = below _ s2 in
    bit r s l m (bit _ _ r1 s1 (bit _ _ r2 s2 (bit _ _ r3 s3 e)))

four-below : (r : ℕ) → r < 2 ^ 32 → after_four r < 2 ^ 32
four-below r l = below _ (below _ (below _ (below r l)))

-- ---- an octet

added : (r octet : ℕ) → r < 2 ^ 32 → octet < 2 ^ 8 → bit_xor r octet < 2 ^ 32
added r octet l o = xor_of_32 r octet l (omega (arith, o))

octet-below : (r octet : ℕ) → r < 2 ^ 32 → octet < 2 ^ 8 → after_octet r octet < 2 ^ 32
unfolding after_octet
octet-below r octet l o = four-below _ (four-below _ (added r octet l o))

-- two remainders, or two octets, that differ
eight : (x y : ℕ) → x < 2 ^ 32 → y < 2 ^ 32 → after_four (after_four x) ≡ after_four (after_four y) → x ≡ y
eight x y l m e = four x y l m (four _ _ (four-below x l) (four-below y m) e)

same-remainder : (r s octet : ℕ) → r < 2 ^ 32 → s < 2 ^ 32 → octet < 2 ^ 8 → after_octet r octet ≡ after_octet s octet → r ≡ s
unfolding after_octet
same-remainder r s octet l m o e = same-xor 32 r s octet l m (eight _ _ (added r octet l o) (added s octet m o) e)

same-octet : (r a b : ℕ) → r < 2 ^ 32 → a < 2 ^ 8 → b < 2 ^ 8 → after_octet r a ≡ after_octet r b → a ≡ b
unfolding after_octet
same-octet r a b l m n e =
    let same : bit_xor r a ≡ bit_xor r b = eight _ _ (added r a l m) (added r b l n) e in
    same-xor 8 a b r m n (xor_comm a r ∙ same ∙ xor_comm r b)

-- ---- octets

pub after-below : (r : ℕ) (xs : List ℕ) → r < 2 ^ 32 → AreOctets xs → after r xs < 2 ^ 32
unfolding after
after-below r [] l are = l
after-below r (x ∷ xs) l are = after-below (after_octet r x) xs (octet-below r x l are.0) are.1

same-before : (r s : ℕ) (xs : List ℕ) → r < 2 ^ 32 → s < 2 ^ 32 → AreOctets xs → after r xs ≡ after s xs → r ≡ s
unfolding after
same-before r s [] l m are e = e
same-before r s (x ∷ xs) l m are e =
    same-remainder r s x l m are.0
    (same-before (after_octet r x) (after_octet s x) xs (octet-below r x l are.0) (octet-below s x m are.0) are.1 e)

same-end : (r s : ℕ) → r < 2 ^ 32 → s < 2 ^ 32 → 2 ^ 32 - 1 - r ≡ 2 ^ 32 - 1 - s → r ≡ s
same-end r s l m e = omega (arith, l, m, e)

pub changed : (front rest : List ℕ) (octet other : ℕ)
    → AreOctets front → AreOctets rest → octet < 2 ^ 8 → other < 2 ^ 8
    → octet ≢ other → crc_of (front ++ octet ∷ rest) ≢ crc_of (front ++ other ∷ rest)
unfolding after
changed front rest octet other are are' l m differ same =
    let r : ℕ = after (2 ^ 32 - 1) front in
    let small : r < 2 ^ 32 = after-below (2 ^ 32 - 1) front (omega arith) are in
    let a = octet-below r octet small l in
    let b = octet-below r other small m in
    let split : after (2 ^ 32 - 1) (front ++ octet ∷ rest) ≡ after (after_octet r octet) rest = after_append (2 ^ 32 - 1) front (octet ∷ rest) in
    let split' : after (2 ^ 32 - 1) (front ++ other ∷ rest) ≡ after (after_octet r other) rest = after_append (2 ^ 32 - 1) front (other ∷ rest) in
    let ends = same-end _ _ (after-below _ rest a are') (after-below _ rest b are')
    (ap (λ (x : ℕ). 2 ^ 32 - 1 - x) (sym split) ∙ same ∙ ap (λ (x : ℕ). 2 ^ 32 - 1 - x) split') in
    differ (same-octet r octet other small l m (same-before _ _ rest a b are' ends))
