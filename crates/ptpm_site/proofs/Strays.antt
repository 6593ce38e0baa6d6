-- Which places lead a loop, and the marks of the least ones, walk by walk.
use Rattle.std.proofs.Common.{◌≡◌, ℕ, zero, suc, ◌+◌, ◌<◌, ◌≤◌, Bool, true, false, cond, eqb, ltb, List, length, get_or, Option, Some, None, ◌⊎◌, ⊎_elim, inl, inr, refl, sym, ap, subst, ◌∙◌, arith, below_more, set}
use Rattle.std.proofs.lemmas.Bool.{cases_eq, cases_lt, false≢true, ne_eqb}
use Rattle.std.proofs.lemmas.Bool.Decides.{nat_tests}
use Rattle.std.proofs.lemmas.Option.{same_Some, none-some}
use Rattle.std.specs.Option.{option_map_or, is_some}
use Rattle.ptpm_site.specs.Loops.{comes_back, is_least}
use Rattle.ptpm_site.specs.Walks.{AreNumbered, Walked, IsPassed}
use Rattle.ptpm_site.proofs.Passing.{same_index, IsAmong, IsPassed-among}
use Rattle.std.proofs.lemmas.List.{get_or-set_other, get_or-set_same, get_or_default, get_or_past}
use Rattle.std.proofs.lemmas.List.Folds.{Any-from_list_any}
use Rattle.std.proofs.lemmas.Map.Keys.{IsDistinct-from_apart}
use Rattle.std.proofs.lemmas.Map.Steps.{length-le_from_distinct_below}

-- ---- which places lead a loop: a walk from one comes back to it, and passes none that is less

abbrev pub follows : List (Option ℕ) → ℕ → Option ℕ
follows f p = get_or f p None

-- ---- a step of a walk

at_next : (first q : ℕ) (b : Bool) → (q ≡ first → ⊥) → (first < q → b ≡ false) → cond (ltb q first) false (cond (eqb q first) true b) ≡ false
at_next first q b apart back = grind (arith, nat_tests)

at_next_true : (first q : ℕ) (b : Bool) → (q ≡ first) ⊎ ((first < q) × (b ≡ true)) → cond (ltb q first) false (cond (eqb q first) true b) ≡ true
at_next_true first q b h = grind (arith, nat_tests)

stray_step : (f : List (Option ℕ)) (first n : ℕ) (o : Option ℕ)
    → ((q : ℕ) → o ≡ Some q → (q ≡ first → ⊥) × (first < q → comes_back f first n q ≡ false))
    → option_map_or (λ q. cond (ltb q first) false (cond (eqb q first) true (comes_back f first n q))) o false ≡ false
stray_step f first n None h = refl
stray_step f first n (Some q) h = at_next first q (comes_back f first n q) (h q refl).0 (h q refl).1

-- a walk does not come back if it stays among places that do not include the first
pub strays : (f : List (Option ℕ)) (T : ℕ → Type 0) (first : ℕ)
    → (T first → ⊥)
    → ((x q : ℕ) → first < x → T x → follows f x ≡ Some q → T q)
    → (n here : ℕ) → ((q : ℕ) → follows f here ≡ Some q → T q) → comes_back f first n here ≡ false
strays f T first out on zero here go = refl
strays f T first out on (suc n) here go =
    stray_step f first n (follows f here) (λ q e. (λ same. out (subst T same (go q e)), λ above. strays f T first out on n q (λ r g. on q r above (go q e) g)))

-- it comes back in one step, or from the next place on
step_back : (f : List (Option ℕ)) (first n here q : ℕ)
    → follows f here ≡ Some q
    → (q ≡ first) ⊎ ((first < q) × (comes_back f first n q ≡ true))
    → comes_back f first (suc n) here ≡ true
step_back f first n here q e h =
    ap (λ o. option_map_or (λ q. cond (ltb q first) false (cond (eqb q first) true (comes_back f first n q))) o false) e ∙ at_next_true first q (comes_back f first n q) h

-- the same by the indices of the places that were passed
strays_by : (f : List (Option ℕ)) (P : List ℕ) (Good : ℕ → Type 0) (i : ℕ)
    → ((l : ℕ) → Good l → get_or P l 0 ≡ get_or P i 0 → ⊥)
    → ((l q : ℕ) → get_or P i 0 < get_or P l 0 → Good l → follows f (get_or P l 0) ≡ Some q → (k : ℕ) × (get_or P k 0 ≡ q) × Good k)
    → ((q : ℕ) → follows f (get_or P i 0) ≡ Some q → (k : ℕ) × (get_or P k 0 ≡ q) × Good k)
    → (n : ℕ) → comes_back f (get_or P i 0) n (get_or P i 0) ≡ false
strays_by f P Good i apart on go n =
    strays f (λ q. (k : ℕ) × (get_or P k 0 ≡ q) × Good k) (get_or P i 0)
    (λ w. apart w.0 w.2 w.1)
    (λ x q above w e. on w.0 q (subst (λ y. get_or P i 0 < y) (sym w.1) above) w.2 (ap (follows f) w.1 ∙ e))
    n (get_or P i 0) go

-- whom a place that was passed follows was passed
abbrev pub IsClosed : List (Option ℕ) → List ℕ → Type 0
IsClosed f P = (k q : ℕ) → k < length P → follows f (get_or P k 0) ≡ Some q → (l : ℕ) × (l < length P) × (get_or P l 0 ≡ q)

-- ---- after one walk

module _ (f : List (Option ℕ)) (indices : List (Option ℕ)) (old P : List ℕ) (numbered : AreNumbered indices P) where
  apart : (k l : ℕ) → k < length P → l < length P → (k ≡ l → ⊥) → get_or P k 0 ≡ get_or P l 0 → ⊥
  apart k l a b ne e = ne (same_index indices P numbered k l a b e)

  -- a place before the one to which the walk comes back leads no loop
  module _ (closed : IsClosed f old) (i : ℕ) (from : length old ≤ i) (within : i < length P) where
    abbrev Later : ℕ → Type 0
    Later k = ((k < length old) ⊎ (i < k)) × (k < length P)

    later_apart : (l : ℕ) → Later l → get_or P l 0 ≡ get_or P i 0 → ⊥
    later_apart l g = apart l i g.1 within (λ e. ⊎_elim (λ lt. omega arith) (λ lt. omega arith) g.0)

    later_old : (back : Option ℕ) → Walked f old P back → (l q : ℕ) → l < length old → follows f (get_or P l 0) ≡ Some q → (k : ℕ) × (get_or P k 0 ≡ q) × Later k
    later_old back w l q lt e =
        let there = closed l q lt (ap (follows f) (sym (w.before l lt)) ∙ e) in
        (there.0, w.before there.0 there.1 ∙ there.2, (inl there.1, omega (arith, w.longer, there.1)))

    later_inner : (back : Option ℕ) → Walked f old P back → (l q : ℕ) → i ≤ l → l + 1 < length P → follows f (get_or P l 0) ≡ Some q → (k : ℕ) × (get_or P k 0 ≡ q) × Later k
    later_inner back w l q le lt e = (l + 1, same_Some (get_or P (l + 1) 0) q (sym (w.steps l (omega arith) lt) ∙ e), (inr (omega arith), lt))

    later_none : Walked f old P None → (l q : ℕ) → i ≤ l → l < length P → follows f (get_or P l 0) ≡ Some q → (k : ℕ) × (get_or P k 0 ≡ q) × Later k
    later_none w l q le lt e = ⊎_elim
        (λ inner. later_inner None w l q le inner e)
        (λ (outer : length P ≤ l + 1).
        let there = w.ends l q (omega arith) (omega arith) e in
        (there.0, there.2, (inl there.1, omega (arith, w.longer, there.1))))
        (cases_lt (l + 1) (length P))

    later_some : (back : ℕ) → Walked f old P (Some back) → i < back → (l q : ℕ) → i ≤ l → l < length P → follows f (get_or P l 0) ≡ Some q → (k : ℕ) × (get_or P k 0 ≡ q) × Later k
    later_some back w tail l q le lt e = ⊎_elim
        (λ inner. later_inner (Some back) w l q le inner e)
        (λ (outer : length P ≤ l + 1).
        (back, same_Some (get_or P back 0) q (sym (w.ends.2 l (omega arith)) ∙ e), (inr tail, w.ends.1)))
        (cases_lt (l + 1) (length P))

    pub strays_none : Walked f old P None → (n : ℕ) → comes_back f (get_or P i 0) n (get_or P i 0) ≡ false
    strays_none w = strays_by f P Later i later_apart
        (λ l q above g e. ⊎_elim (λ lt. later_old None w l q lt e) (λ lt. later_none w l q (omega arith) g.1 e) g.0)
        (λ q e. later_none w i q (omega arith) within e)

    pub strays_tail : (back : ℕ) → Walked f old P (Some back) → i < back → (n : ℕ) → comes_back f (get_or P i 0) n (get_or P i 0) ≡ false
    strays_tail back w tail = strays_by f P Later i later_apart
        (λ l q above g e. ⊎_elim (λ lt. later_old (Some back) w l q lt e) (λ lt. later_some back w tail l q (omega arith) g.1 e) g.0)
        (λ q e. later_some back w tail i q (omega arith) within e)

  -- ---- the loop, from the place on to which the walk came back
  module _ (back : ℕ) (w : Walked f old P (Some back)) (j : ℕ) (from : back ≤ j) (within : j < length P) where
    -- each but the last is followed by the next, and the last by the first
    ring_next : (l q : ℕ) → back ≤ l → l + 1 < length P → follows f (get_or P l 0) ≡ Some q → get_or P (l + 1) 0 ≡ q
    ring_next l q le lt e = same_Some (get_or P (l + 1) 0) q (sym (w.steps l (omega (arith, w.ends.0)) lt) ∙ e)

    ring_last : (l q : ℕ) → l + 1 ≡ length P → follows f (get_or P l 0) ≡ Some q → get_or P back 0 ≡ q
    ring_last l q at_end e = same_Some (get_or P back 0) q (sym (w.ends.2 l at_end) ∙ e)

    -- from a place before that at j a walk comes to that first
    module _ (i : ℕ) (before : i < j) (from_i : back ≤ i) (less : get_or P j 0 < get_or P i 0) where
      abbrev Between : ℕ → Type 0
      Between k = (i < k) × (k ≤ j)

      between_on : (l q : ℕ) → i ≤ l → l < j → follows f (get_or P l 0) ≡ Some q → (k : ℕ) × (get_or P k 0 ≡ q) × Between k
      between_on l q le lt e = (l + 1, ring_next l q (omega arith) (omega arith) e, (omega arith, omega arith))

      pub strays_before : (n : ℕ) → comes_back f (get_or P i 0) n (get_or P i 0) ≡ false
      strays_before = strays_by f P Between i
          (λ l g. apart l i (omega arith) (omega arith) (λ e. omega arith))
          (λ l q above g e. ⊎_elim
          (λ (lt : l < j). between_on l q (omega arith) lt e)
          (λ (le : j ≤ l). let same : l ≡ j = omega arith in absurd (omega (arith, ap (λ k. get_or P k 0) same)))
          (cases_lt l j))
          (λ q e. between_on i q (omega arith) before e)

    -- from one after it too, by the end
    module _ (i : ℕ) (after : j < i) (within_i : i < length P) (less : get_or P j 0 < get_or P i 0) where
      abbrev Around : ℕ → Type 0
      Around k = ((i < k) ⊎ ((back ≤ k) × (k ≤ j))) × (k < length P)

      around_up : (l q : ℕ) → i ≤ l → l < length P → follows f (get_or P l 0) ≡ Some q → (k : ℕ) × (get_or P k 0 ≡ q) × Around k
      around_up l q le lt e = ⊎_elim
          (λ (inner : l + 1 < length P). (l + 1, ring_next l q (omega arith) inner e, (inl (omega arith), inner)))
          (λ (outer : length P ≤ l + 1). (back, ring_last l q (omega arith) e, (inr (omega arith, from), w.ends.1)))
          (cases_lt (l + 1) (length P))

      around_low : (l q : ℕ) → back ≤ l → l ≤ j → get_or P i 0 < get_or P l 0 → follows f (get_or P l 0) ≡ Some q → (k : ℕ) × (get_or P k 0 ≡ q) × Around k
      around_low l q low high above e = ⊎_elim
          (λ (lt : l < j). (l + 1, ring_next l q low (omega arith) e, (inr (omega arith, omega arith), omega arith)))
          (λ (le : j ≤ l). let same : l ≡ j = omega arith in absurd (omega (arith, ap (λ k. get_or P k 0) same)))
          (cases_lt l j)

      pub strays_after : (n : ℕ) → comes_back f (get_or P i 0) n (get_or P i 0) ≡ false
      strays_after = strays_by f P Around i
          (λ l g. apart l i g.1 within_i (λ e. ⊎_elim (λ lt. omega arith) (λ p. omega (arith, p.1)) g.0))
          (λ l q above g e. ⊎_elim (λ lt. around_up l q (omega arith) g.1 e) (λ p. around_low l q p.0 p.1 above e) g.0)
          (λ q e. around_up i q (omega arith) within_i e)

    -- the least of them leads the loop
    module _ (least : (k : ℕ) → back ≤ k → k < length P → get_or P j 0 ≤ get_or P k 0) where
      next_of : (l : ℕ) → back ≤ l → l + 1 < length P → follows f (get_or P l 0) ≡ Some (get_or P (l + 1) 0)
      next_of l le lt = w.steps l (omega (arith, w.ends.0)) lt

      greater : (k : ℕ) → back ≤ k → k < length P → (k ≡ j → ⊥) → get_or P j 0 < get_or P k 0
      greater k le lt ne = omega (arith, least k le lt, apart k j lt within ne)

      comes_low : (n l : ℕ) → back ≤ l → l < j → j ≤ l + n → comes_back f (get_or P j 0) n (get_or P l 0) ≡ true
      comes_low zero l le lt enough = absurd (omega arith)
      comes_low (suc n) l le lt enough = step_back f (get_or P j 0) n (get_or P l 0) (get_or P (l + 1) 0) (next_of l le (omega arith))
          (⊎_elim (λ (e : l + 1 ≡ j). inl (ap (λ k. get_or P k 0) e))
          (λ (ne : l + 1 ≡ j → ⊥). inr (greater (l + 1) (omega arith) (omega arith) ne, comes_low n (l + 1) (omega arith) (omega arith) (omega arith)))
          (cases_eq (l + 1) j))

      comes_high : (n l : ℕ) → j ≤ l → l < length P → length P + j ≤ l + n + back → comes_back f (get_or P j 0) n (get_or P l 0) ≡ true
      comes_high zero l le lt enough = absurd (omega arith)
      comes_high (suc n) l le lt enough = ⊎_elim
          (λ (inner : l + 1 < length P). step_back f (get_or P j 0) n (get_or P l 0) (get_or P (l + 1) 0) (next_of l (omega arith) inner)
          (inr (greater (l + 1) (omega arith) inner (λ e. omega arith), comes_high n (l + 1) (omega arith) inner (omega arith))))
          (λ (outer : length P ≤ l + 1). step_back f (get_or P j 0) n (get_or P l 0) (get_or P back 0) (w.ends.2 l (omega arith))
          (⊎_elim (λ (e : back ≡ j). inl (ap (λ k. get_or P k 0) e))
          (λ (ne : back ≡ j → ⊥). inr (greater back (omega arith) w.ends.1 ne, comes_low n back (omega arith) (omega arith) (omega arith)))
          (cases_eq back j)))
          (cases_lt (l + 1) (length P))

      pub ring_least : length P ≤ length f → is_least f (get_or P j 0) ≡ true
      ring_least short = comes_high (length f) j (omega arith) within (omega arith)

      -- and no other does
      pub ring_strays : (i : ℕ) → back ≤ i → i < length P → (i ≡ j → ⊥) → (n : ℕ) → comes_back f (get_or P i 0) n (get_or P i 0) ≡ false
      ring_strays i le lt ne n = ⊎_elim
          (λ (before : i < j). strays_before i before le (greater i le lt ne) n)
          (λ (after : j ≤ i). strays_after i (omega arith) lt (greater i le lt ne) n)
          (cases_lt i j)

-- ---- the marks of the least places of loops, walk by walk

-- of the places that were passed those are marked that are the least of a loop, and no other is
pub record AreMarked (f : List (Option ℕ)) (P : List ℕ) (marks : List Bool) : Type 0 where
  pub sound : (p : ℕ) → get_or marks p false ≡ true → is_least f p ≡ true
  pub whole : (k : ℕ) → k < length P → get_or marks (get_or P k 0) false ≡ false → is_least f (get_or P k 0) ≡ false

-- ---- what is passed

among_passed : (indices : List (Option ℕ)) (P : List ℕ) (p : ℕ) (o : Option ℕ) → AreNumbered indices P → get_or indices p None ≡ o → is_some o ≡ true → IsAmong P p
among_passed indices P p None h e passed = absurd (false≢true passed)
among_passed indices P p (Some k) h e passed = let there = h.only p k e in (k, there.0, there.1)

pub IsAmong-passed : (indices : List (Option ℕ)) (P : List ℕ) (p : ℕ) → AreNumbered indices P → IsPassed indices p → IsAmong P p
IsAmong-passed indices P p h passed = among_passed indices P p (get_or indices p None) h refl passed

pub IsPassed-more : (f is js : List (Option ℕ)) (old P : List ℕ) (back : Option ℕ) → AreNumbered is old → AreNumbered js P → Walked f old P back
    → (p : ℕ) → IsPassed is p → IsPassed js p
IsPassed-more f is js old P back h g w p passed =
    let a = IsAmong-passed is old p h passed in
    IsPassed-among js P p g (a.0, omega (arith, w.longer, a.1), w.before a.0 a.1 ∙ a.2)

closed_end : (f : List (Option ℕ)) (old P : List ℕ) (back : Option ℕ) → Walked f old P back → (k q : ℕ) → length old ≤ k → k + 1 ≡ length P
    → follows f (get_or P k 0) ≡ Some q → (l : ℕ) × (l < length P) × (get_or P l 0 ≡ q)
closed_end f old P None w k q le at_end e = let there = w.ends k q le at_end e in (there.0, omega (arith, w.longer, there.1), there.2)
closed_end f old P (Some back) w k q le at_end e = (back, w.ends.1, same_Some (get_or P back 0) q (sym (w.ends.2 k at_end) ∙ e))

-- the walk passed its first place
pub IsPassed-next : (f is js : List (Option ℕ)) (old P : List ℕ) (back : Option ℕ) (n : ℕ) → AreNumbered is old → AreNumbered js P → Walked f old P back
    → ((p : ℕ) → p < n → IsPassed is p) → IsPassed js n → (p : ℕ) → p < n + 1 → IsPassed js p
IsPassed-next f is js old P back n h g w before here = below_more (IsPassed js) n (λ p lt. IsPassed-more f is js old P back h g w p (before p lt)) here

pub IsClosed-more : (f : List (Option ℕ)) (old P : List ℕ) (back : Option ℕ) → IsClosed f old → Walked f old P back → IsClosed f P
IsClosed-more f old P back closed w k q lt e = ⊎_elim
    (λ (below : k < length old).
    let there = closed k q below (ap (follows f) (sym (w.before k below)) ∙ e) in
    (there.0, omega (arith, w.longer, there.1), w.before there.0 there.1 ∙ there.2))
    (λ (above : length old ≤ k). ⊎_elim
    (λ (inner : k + 1 < length P). (k + 1, inner, same_Some (get_or P (k + 1) 0) q (sym (w.steps k above inner) ∙ e)))
    (λ (outer : length P ≤ k + 1). closed_end f old P back w k q above (omega arith) e)
    (cases_lt (k + 1) (length P)))
    (cases_lt k (length old))

-- ---- a place that was passed is one of the places, and none is passed twice

within_indices : (indices : List (Option ℕ)) (P : List ℕ) → AreNumbered indices P → (k : ℕ) → k < length P → get_or P k 0 < length indices
within_indices indices P h k lt = ⊎_elim
    (λ below. below)
    (λ past. absurd (none-some k (sym (get_or_past indices (get_or P k 0) None past) ∙ h.each k lt)))
    (cases_lt (get_or P k 0) (length indices))

pub length-passed : (indices : List (Option ℕ)) (P : List ℕ) → AreNumbered indices P → length P ≤ length indices
length-passed indices P h =
    length-le_from_distinct_below P (length indices)
    (IsDistinct-from_apart eqb P (λ i j d lt within.
    let differ : get_or P i 0 ≡ get_or P j 0 → ⊥ = λ e. let same : i ≡ j = same_index indices P h i j (omega arith) within e in omega arith in
    ap (λ q. eqb q (get_or P j d)) (get_or_default P i d 0 (omega arith)) ∙ ap (λ q. eqb (get_or P i 0) q) (get_or_default P j d 0 within) ∙ ne_eqb (get_or P i 0) (get_or P j 0) differ))
    (λ q any.
    let a = Any-from_list_any (eqb q) P any in
    let tested : eqb q a.1 ≡ true = a.4 in
    let same : q ≡ a.1 = grind (arith, nat_tests) in
    omega (arith, within_indices indices P h a.0 a.2, get_or_default P a.0 0 a.1 a.2, a.3, same))

-- ---- one walk more

pub AreMarked-straight : (f indices : List (Option ℕ)) (old P : List ℕ) (marks : List Bool)
    → AreNumbered indices P → IsClosed f old → Walked f old P None → AreMarked f old marks → AreMarked f P marks
AreMarked-straight f indices old P marks numbered closed w h = record {
  sound = h.sound;
  whole = λ k lt e. ⊎_elim
      (λ (below : k < length old). ap (is_least f) (w.before k below) ∙ h.whole k below (ap (λ p. get_or marks p false) (sym (w.before k below)) ∙ e))
      (λ (above : length old ≤ k). strays_none f indices old P numbered closed k above lt w (length f))
      (cases_lt k (length old));
}

pub AreMarked-round : (f indices : List (Option ℕ)) (old P : List ℕ) (marks : List Bool) (back j : ℕ)
    → AreNumbered indices P → IsClosed f old → Walked f old P (Some back) → AreMarked f old marks
    → length indices ≡ length f → length marks ≡ length f
    → back ≤ j → j < length P → ((k : ℕ) → back ≤ k → k < length P → get_or P j 0 ≤ get_or P k 0)
    → AreMarked f P (set marks (get_or P j 0) true)
AreMarked-round f indices old P marks back j numbered closed w h all room from within least =
    let head : ℕ = get_or P j 0 in
    let inside : head < length marks = omega (arith, within_indices indices P numbered j within) in
    let short : length P ≤ length f = omega (arith, length-passed indices P numbered) in
    record {
      sound = λ p e. ⊎_elim
          (λ (same : p ≡ head). ap (is_least f) same ∙ ring_least f indices old P numbered back w j from within least short)
          (λ (other : p ≡ head → ⊥). h.sound p (sym (get_or-set_other marks head p true false other) ∙ e))
          (cases_eq p head);
      whole = λ k lt e.
          let other : k ≡ j → ⊥ = λ same.
          false≢true (sym e ∙ ap (λ i. get_or (set marks head true) (get_or P i 0) false) same ∙ get_or-set_same marks head true false inside) in
          ⊎_elim
          (λ (below : k < length old).
          let old_one : get_or P k 0 ≡ head → ⊥ = λ same. other (same_index indices P numbered k j lt within same) in
          ap (is_least f) (w.before k below)
          ∙ h.whole k below (ap (λ p. get_or marks p false) (sym (w.before k below)) ∙ sym (get_or-set_other marks head (get_or P k 0) true false old_one) ∙ e))
          (λ (above : length old ≤ k). ⊎_elim
          (λ (tail : k < back). strays_tail f indices old P numbered closed k above lt back w tail (length f))
          (λ (ring : back ≤ k). ring_strays f indices old P numbered back w j from within least k ring lt other (length f))
          (cases_lt k back))
          (cases_lt k (length old));
    }

-- all are passed
marked_at : (f : List (Option ℕ)) (marks : List Bool) (p : ℕ) (b : Bool)
    → (get_or marks p false ≡ true → is_least f p ≡ true) → (get_or marks p false ≡ false → is_least f p ≡ false) → get_or marks p false ≡ b → get_or marks p false ≡ is_least f p
marked_at f marks p true marked unmarked e = e ∙ sym (marked e)
marked_at f marks p false marked unmarked e = e ∙ sym (unmarked e)

pub AreMarked-all : (f indices : List (Option ℕ)) (P : List ℕ) (marks : List Bool) (p : ℕ)
    → AreNumbered indices P → AreMarked f P marks → IsPassed indices p → get_or marks p false ≡ is_least f p
AreMarked-all f indices P marks p numbered h passed =
    let a = IsAmong-passed indices P p numbered passed in
    marked_at f marks p (get_or marks p false) (h.sound p) (λ unmarked. ap (is_least f) (sym a.2) ∙ h.whole a.0 a.1 (ap (λ q. get_or marks q false) a.2 ∙ unmarked)) refl
