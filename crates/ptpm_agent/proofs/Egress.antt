-- The copies for the egress ports, port by port.
use Rattle.std.proofs.Common.{arith, ◌≡◌, ℕ, ◌<◌, ◌≤◌, ◌+◌, ◌-◌, ◌==◌, ◌&&◌, not, zero, suc, List, [], ◌∷◌, ◌++◌, length, map, cond, Bool, true, false, refl, sym, ◌∙◌, ap, subst, ⊎_elim}
use Rattle.std.proofs.lemmas.Bool.{cases_Bool, cases_eq, and_left, eq-eqb}
use Rattle.std.proofs.lemmas.List.{append-nil, length-append, length-map, map-append}
use Rattle.std.proofs.lemmas.List.Elements.{filter-append}
use Rattle.std.proofs.lemmas.List.Filters.{length-filter_both}
use Rattle.std.proofs.lemmas.List.FromFn.{length-range_with_len}
use Rattle.std.specs.List.{filter, range_with_len}
use Rattle.ptpm_data.specs.Members.{DataSetsValue, may_forward}
use Rattle.ptpm_agent.specs.Forwarding.{egress_ports, with_less_hop}

-- the ports up to n that are egress ports
abbrev passes : ℕ → DataSetsValue → ℕ → Bool
passes ingress d port = not (port == ingress) && may_forward port d

pub copies_up_to : ℕ → DataSetsValue → List ℕ → ℕ → List (ℕ × List ℕ)
copies_up_to ingress d datagram n =
    map (λ port. (port, with_less_hop datagram)) (filter (λ port. passes ingress d port) (range_with_len 1 n))

pub copies_up_to-none : (ingress : ℕ) (d : DataSetsValue) (datagram : List ℕ)
    → copies_up_to ingress d datagram 0 ≡ []
unfolding copies_up_to
copies_up_to-none ingress d datagram = refl

pub copies_up_to-all : (ingress : ℕ) (d : DataSetsValue) (datagram : List ℕ)
    → copies_up_to ingress d datagram (length d.ports)
    ≡ map (λ port. (port, with_less_hop datagram)) (egress_ports ingress d)
unfolding copies_up_to
copies_up_to-all ingress d datagram = refl

-- one number more
pub range_with_len-suc : (a n : ℕ) → range_with_len a (suc n) ≡ range_with_len a n ++ (a + n) ∷ []
range_with_len-suc a zero = let here : a ≡ a + 0 = omega arith in ap (λ k. k ∷ []) here
range_with_len-suc a (suc n) =
    let there : a + 1 + n ≡ a + suc n = omega arith in
    ap (λ (xs : List ℕ). a ∷ xs) (range_with_len-suc (a + 1) n ∙ ap (λ k. range_with_len (a + 1) n ++ k ∷ []) there)

filter-last : (t : ℕ → Bool) (f : ℕ → ℕ × List ℕ) (xs : List ℕ) (x : ℕ)
    → map f (filter t (xs ++ x ∷ [])) ≡ map f (filter t xs) ++ cond (t x) (f x ∷ []) []
filter-last t f xs x = rw (filter-append t xs (x ∷ []), map-append f (filter t xs)) (grind arith)

copies_up_to-more : (ingress : ℕ) (d : DataSetsValue) (datagram : List ℕ) (port : ℕ)
    → 1 ≤ port
    → copies_up_to ingress d datagram port
    ≡ copies_up_to ingress d datagram (port - 1)
    ++ cond (not (port == ingress) && may_forward port d)
    ((port, with_less_hop datagram) ∷ []) []
unfolding copies_up_to
copies_up_to-more ingress d datagram port some =
    let before : port ≡ suc (port - 1) = omega (arith, some) in
    let last : 1 + (port - 1) ≡ port = omega (arith, some) in
    ap (λ n. map (λ p. (p, with_less_hop datagram)) (filter (λ p. passes ingress d p) (range_with_len 1 n))) before
    ∙ (ap (λ (xs : List ℕ). map (λ p. (p, with_less_hop datagram)) (filter (λ p. passes ingress d p) xs)) (range_with_len-suc 1 (port - 1) ∙ ap (λ k. range_with_len 1 (port - 1) ++ k ∷ []) last)
    ∙ filter-last (λ p. passes ingress d p) (λ p. (p, with_less_hop datagram)) (range_with_len 1 (port - 1)) port)

pub copies_up_to-pass : (ingress : ℕ) (d : DataSetsValue) (datagram : List ℕ) (port : ℕ)
    → 1 ≤ port
    → (not (port == ingress) && may_forward port d) ≡ true
    → copies_up_to ingress d datagram port
    ≡ copies_up_to ingress d datagram (port - 1) ++ (port, with_less_hop datagram) ∷ []
copies_up_to-pass ingress d datagram port some y = grind (arith, copies_up_to-more)

pub copies_up_to-skip : (ingress : ℕ) (d : DataSetsValue) (datagram : List ℕ) (port : ℕ)
    → 1 ≤ port
    → (not (port == ingress) && may_forward port d) ≡ false
    → copies_up_to ingress d datagram port ≡ copies_up_to ingress d datagram (port - 1)
copies_up_to-skip ingress d datagram port some n = grind (arith, copies_up_to-more, append-nil)

-- ---- how many there are

length-filter_range : (t : ℕ → Bool) (a n : ℕ) → length (filter t (range_with_len a n)) ≤ n
length-filter_range t a n = omega (arith, length-filter_both t (λ k. not (t k)) (λ k. refl) (range_with_len a n), length-range_with_len a n)

-- one less if a number of the range does not pass
length-filter_range_but_one : (t : ℕ → Bool) (a n i : ℕ)
    → a ≤ i
    → i < a + n
    → t i ≡ false
    → length (filter t (range_with_len a n)) + 1 ≤ n
length-filter_range_but_one t a zero i low high f = absurd (omega (arith, low, high))
length-filter_range_but_one t a (suc n) i low high f = ⊎_elim
    (λ (same : i ≡ a). grind (arith, length-filter_range))
    (λ (other : i ≡ a → ⊥).
    let above : a + 1 ≤ i = omega (arith, low, other) in
    let inside : i < a + 1 + n = omega (arith, high) in
    let rest : length (filter t (range_with_len (a + 1) n)) + 1 ≤ n = length-filter_range_but_one t (a + 1) n i above inside f in
    ⊎_elim
    (λ (y : t a ≡ true). grind arith)
    (λ (g : t a ≡ false). grind arith)
    (cases_Bool (t a)))
    (cases_eq i a)

pub length-copies_up_to : (ingress : ℕ) (d : DataSetsValue) (datagram : List ℕ) (n : ℕ)
    → length (copies_up_to ingress d datagram n) ≤ n
unfolding copies_up_to
length-copies_up_to ingress d datagram n = grind (arith, length-map, length-filter_range)

-- nothing goes out at the ingress port
pub length-copies_up_to_but_one : (ingress : ℕ) (d : DataSetsValue) (datagram : List ℕ) (n : ℕ)
    → 1 ≤ ingress
    → ingress ≤ n
    → length (copies_up_to ingress d datagram n) + 1 ≤ n
unfolding copies_up_to
length-copies_up_to_but_one ingress d datagram n low high =
    let inside : ingress < 1 + n = omega (arith, high) in
    subst (λ k. k + 1 ≤ n) (sym (length-map (filter (λ port. passes ingress d port) (range_with_len 1 n)) (λ port. (port, with_less_hop datagram))))
    (length-filter_range_but_one (λ port. passes ingress d port) 1 n ingress low inside
    (and_left (not (ingress == ingress)) (may_forward ingress d) (ap not (eq-eqb ingress ingress refl))))

-- no fewer up to a later port
length-copies_up_to_later : (ingress : ℕ) (d : DataSetsValue) (datagram : List ℕ) (n k : ℕ)
    → length (copies_up_to ingress d datagram n) ≤ length (copies_up_to ingress d datagram (n + k))
length-copies_up_to_later ingress d datagram n zero =
    let same : n + 0 ≡ n = omega arith in
    omega (arith, ap (λ m. length (copies_up_to ingress d datagram m)) same)
length-copies_up_to_later ingress d datagram n (suc k) =
    let before : n + suc k - 1 ≡ n + k = omega arith in
    omega (
      arith,
      length-copies_up_to_later ingress d datagram n k,
      ap (λ m. length (copies_up_to ingress d datagram m)) before,
      ap (λ (xs : List (ℕ × List ℕ)). length xs) (copies_up_to-more ingress d datagram (n + suc k) (omega arith)),
      length-append (copies_up_to ingress d datagram (n + suc k - 1))
          (cond (not (n + suc k == ingress) && may_forward (n + suc k) d) ((n + suc k, with_less_hop datagram) ∷ []) []),
    )

-- there is room for the copy at this port, if there is for all
pub room_for_copy : (ingress : ℕ) (d : DataSetsValue) (datagram : List ℕ) (port most : ℕ)
    → 1 ≤ port
    → port ≤ length d.ports
    → (not (port == ingress) && may_forward port d) ≡ true
    → length (egress_ports ingress d) ≤ most
    → length (copies_up_to ingress d datagram (port - 1)) < most
room_for_copy ingress d datagram port most some inside here room =
    let last : port + (length d.ports - port) ≡ length d.ports = omega (arith, inside) in
    omega (
      arith,
      ap (λ (xs : List (ℕ × List ℕ)). length xs) (copies_up_to-pass ingress d datagram port some here),
      length-append (copies_up_to ingress d datagram (port - 1)) ((port, with_less_hop datagram) ∷ []),
      length-copies_up_to_later ingress d datagram port (length d.ports - port),
      ap (λ m. length (copies_up_to ingress d datagram m)) last,
      ap (λ (xs : List (ℕ × List ℕ)). length xs) (copies_up_to-all ingress d datagram),
      length-map {B = ℕ × List ℕ} (egress_ports ingress d) (λ p. (p, with_less_hop datagram)),
      room,
    )
