-- The order of identities by the numbers that the octets of their clocks spell.
use Rattle.std.proofs.Common.{suc, arith, ◌≡◌, ℕ, ◌+◌, ◌*◌, ◌<◌, refl, sym, ◌∙◌, ap, List, [], ◌∷◌, length, get_or}
use Rattle.std.proofs.lemmas.Bool.Decides.{nat_tests}
use Rattle.std.specs.Int.{from_be_bytes, w64}
use Rattle.std.specs.Cmp.Lexicographic.{slice_cmp}
use Rattle.std.specs.Ordering.{nat_cmp, ordering_then}
use Rattle.std.specs.declared.cmp.Ordering.{Ordering}
use Rattle.std.specs.declared.cmp.Ordering.TheVariants.{Equal, Greater, Less}
use Rattle.ptpm_codec.specs.declared.identity.PortIdentity.{PortIdentity}
use Rattle.ptpm_codec.specs.Identity.{identity_cmp}
use Rattle.ptpm_codec.proofs.CanonicalLaws.{by_eight}
use Rattle.ptpm_table.proofs.slot.is_before.Goals as goal

-- a number, followed by digits
abbrev followed : ℕ → List ℕ → ℕ
followed m [] = m
followed m (x ∷ xs) = followed (m * 256 + x) xs

one_digit : (m n x y : ℕ)
    → x < 256
    → y < 256
    → nat_cmp (m * 256 + x) (n * 256 + y) ≡ ordering_then (nat_cmp m n) (nat_cmp x y)
one_digit m n x y a b = grind (arith, nat_tests)

then_equal : (o : Ordering) → ordering_then o Equal ≡ o
then_equal Less = refl
then_equal Equal = refl
then_equal Greater = refl

then_assoc : (a b c : Ordering) → ordering_then (ordering_then a b) c ≡ ordering_then a (ordering_then b c)
then_assoc Less b c = refl
then_assoc Equal b c = refl
then_assoc Greater b c = refl

followed_cmp : (m n : ℕ) (xs ys : List ℕ)
    → length xs ≡ length ys
    → ((i : ℕ) → get_or xs i 0 < 256)
    → ((i : ℕ) → get_or ys i 0 < 256)
    → nat_cmp (followed m xs) (followed n ys) ≡ ordering_then (nat_cmp m n) (slice_cmp nat_cmp xs ys)
followed_cmp m n [] [] size low low' = sym (then_equal (nat_cmp m n))
followed_cmp m n [] (y ∷ ys) size low low' = absurd (omega (arith, size))
followed_cmp m n (x ∷ xs) [] size low low' = absurd (omega (arith, size))
followed_cmp m n (x ∷ xs) (y ∷ ys) size low low' =
    followed_cmp (m * 256 + x) (n * 256 + y) xs ys (omega (arith, size)) (λ i. low (suc i)) (λ i. low' (suc i))
    ∙ ap (λ o. ordering_then o (slice_cmp nat_cmp xs ys)) (one_digit m n x y (low 0) (low' 0))
    ∙ then_assoc (nat_cmp m n) (nat_cmp x y) (slice_cmp nat_cmp xs ys)

spelled : (xs : List ℕ) → length xs ≡ 8 → from_be_bytes w64 xs ≡ followed 0 xs
spelled = by_eight (λ xs. from_be_bytes w64 xs ≡ followed 0 xs) (λ a b c d e f g h. omega arith)

-- by the number of the clock, and then by port
order_by_number : (p q : PortIdentity) (m n : ℕ)
    → length p.clock.0 ≡ 8
    → length q.clock.0 ≡ 8
    → ((i : ℕ) → get_or p.clock.0 i 0 < 256)
    → ((i : ℕ) → get_or q.clock.0 i 0 < 256)
    → m ≡ from_be_bytes w64 p.clock.0
    → n ≡ from_be_bytes w64 q.clock.0
    → identity_cmp p q ≡ ordering_then (nat_cmp m n) (nat_cmp p.port q.port)
order_by_number p q m n long long' low low' is is' =
    let numbers : slice_cmp nat_cmp p.clock.0 q.clock.0 ≡ nat_cmp m n =
    sym (followed_cmp 0 0 p.clock.0 q.clock.0 (long ∙ sym long') low low')
    ∙ (λ i. nat_cmp (sym (is ∙ spelled p.clock.0 long) i) (sym (is' ∙ spelled q.clock.0 long') i)) in
    ap (λ o. ordering_then o (nat_cmp p.port q.port)) numbers

pub returns-then-clock-other_clock : goal.returns-then-clock-other_clock
returns-then-clock-other_clock c =
    let a = c.number_of-clock.ensures in
    let b = c.number_of-other_clock.ensures in
    let order = order_by_number c.args.who.now c.args.other.now _ _ a.long b.long a.low b.low a.number b.number in
    grind (arith, nat_tests, order)

pub returns-then-clock-other_clock-2 : goal.returns-then-clock-other_clock-2
returns-then-clock-other_clock-2 c =
    let a = c.number_of-clock.ensures in
    let b = c.number_of-other_clock.ensures in
    let order = order_by_number c.args.who.now c.args.other.now _ _ a.long b.long a.low b.low a.number b.number in
    grind (arith, nat_tests, order)

pub returns-else-clock-other_clock-2 : goal.returns-else-clock-other_clock-2
returns-else-clock-other_clock-2 c =
    let a = c.number_of-clock.ensures in
    let b = c.number_of-other_clock.ensures in
    let order = order_by_number c.args.who.now c.args.other.now _ _ a.long b.long a.low b.low a.number b.number in
    grind (arith, nat_tests, order)
