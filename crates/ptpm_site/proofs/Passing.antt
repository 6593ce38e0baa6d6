-- Each place that a walk passes is numbered, and follows the next.
use Rattle.std.proofs.Common.{◌≡◌, ℕ, ◌+◌, ◌<◌, ◌≤◌, List, [], ◌∷◌, ◌++◌, length, length-append, get_or, set, Option, Some, None, ◌⊎◌, ⊎_elim, inl, inr, refl, sym, ap, ◌∙◌, arith}
use Rattle.std.proofs.lemmas.Bool.{cases_eq, cases_lt}
use Rattle.std.proofs.lemmas.List.{get_or_append_left, get_or_push, get_or-set_same, get_or-set_other}
use Rattle.std.proofs.lemmas.Option.{none-some, same_Some}
use Rattle.std.specs.Option.{is_some}
use Rattle.ptpm_site.specs.Walks.{AreNumbered, IsPassed, Walked}

-- one more place that is passed
pub AreNumbered-pass : (indices : List (Option ℕ)) (passed : List ℕ) (p : ℕ)
    → AreNumbered indices passed
    → p < length indices
    → get_or indices p None ≡ None
    → AreNumbered (set indices p (Some (length passed))) (passed ++ p ∷ [])
AreNumbered-pass indices passed p h within new =
    let n : ℕ = length passed in
    let more : length (passed ++ p ∷ []) ≡ n + 1 = length-append passed (p ∷ []) in
    let read : List (Option ℕ) → ℕ → Option ℕ = λ is q. get_or is q None in
    let marked : List (Option ℕ) = set indices p (Some n) in
    record {
      each = λ k lt. ⊎_elim
          (λ (below : k < n).
          let other : get_or passed k 0 ≡ p → ⊥ = λ e. none-some k (sym new ∙ ap (read indices) (sym e) ∙ h.each k below) in
          ap (read marked) (get_or_append_left passed (p ∷ []) 0 k below) ∙ get_or-set_other indices p (get_or passed k 0) (Some n) None other ∙ h.each k below)
          (λ (above : n ≤ k).
          let last : n ≡ k = omega arith in
          ap (read marked) (get_or_push passed p 0 k last) ∙ get_or-set_same indices p (Some n) None within ∙ ap Some last)
          (cases_lt k n);
      only = λ q k e. ⊎_elim
          (λ (same : q ≡ p).
          let last : n ≡ k = same_Some n k (sym (get_or-set_same indices p (Some n) None within) ∙ ap (read marked) (sym same) ∙ e) in
          (omega arith, get_or_push passed p 0 k last ∙ sym same))
          (λ (other : q ≡ p → ⊥).
          let there = h.only q k (sym (get_or-set_other indices p q (Some n) None other) ∙ e) in
          let below : k < n = there.0 in
          (omega arith, get_or_append_left passed (p ∷ []) 0 k below ∙ there.1))
          (cases_eq q p);
    }

-- no place comes twice
pub same_index : (indices : List (Option ℕ)) (passed : List ℕ) → AreNumbered indices passed
    → (k l : ℕ) → k < length passed → l < length passed → get_or passed k 0 ≡ get_or passed l 0 → k ≡ l
same_index indices passed h k l a b e = same_Some k l (sym (h.each k a) ∙ ap (λ q. get_or indices q None) e ∙ h.each l b)

-- ---- a walk on its way

abbrev pub IsAmong : List ℕ → ℕ → Type 0
IsAmong passed p = (k : ℕ) × (k < length passed) × (get_or passed k 0 ≡ p)

IsAmong-push : (passed : List ℕ) (p q : ℕ) → IsAmong passed q → IsAmong (passed ++ p ∷ []) q
IsAmong-push passed p q (k, lt, e) = (k, omega (arith, length-append passed (p ∷ [])), get_or_append_left passed (p ∷ []) 0 k lt ∙ e)

IsAmong-last : (passed : List ℕ) (p q : ℕ) → p ≡ q → IsAmong (passed ++ p ∷ []) q
IsAmong-last passed p q e = (length passed, omega (arith, length-append passed (p ∷ [])), get_or_push passed p 0 (length passed) refl ∙ e)

pub IsPassed-among : (indices : List (Option ℕ)) (passed : List ℕ) (p : ℕ) → AreNumbered indices passed → IsAmong passed p → IsPassed indices p
IsPassed-among indices passed p h (k, lt, e) = ap (λ q. is_some (get_or indices q None)) (sym e) ∙ ap is_some (h.each k lt)

-- this place is next, and the first one is passed, or is this
pub record Walking (followed : List (Option ℕ)) (old new : List ℕ) (start here : ℕ) : Type 0 where
  pub longer : length old ≤ length new
  pub before : (k : ℕ) → k < length old → get_or new k 0 ≡ get_or old k 0
  pub steps : (k : ℕ) → length old ≤ k → k + 1 < length new → get_or followed (get_or new k 0) None ≡ Some (get_or new (k + 1) 0)
  pub next : (k : ℕ) → length old ≤ k → k + 1 ≡ length new → get_or followed (get_or new k 0) None ≡ Some here
  pub begun : (here ≡ start) ⊎ IsAmong new start

pub Walking-begin : (followed : List (Option ℕ)) (old : List ℕ) (start : ℕ) → Walking followed old old start start
Walking-begin followed old start = record {
  longer = omega arith;
  before = λ k lt. refl;
  steps = λ k le lt. absurd (omega arith);
  next = λ k le e. absurd (omega arith);
  begun = inl refl;
}

module _ (followed : List (Option ℕ)) (old new : List ℕ) (start here : ℕ) (w : Walking followed old new start here) where
  more : length (new ++ here ∷ []) ≡ length new + 1
  more = length-append new (here ∷ [])

  kept : (k : ℕ) → k < length new → get_or (new ++ here ∷ []) k 0 ≡ get_or new k 0
  kept k lt = get_or_append_left new (here ∷ []) 0 k lt

  last : (k : ℕ) → length new ≡ k → get_or (new ++ here ∷ []) k 0 ≡ here
  last k e = get_or_push new here 0 k e

  before_all : (k : ℕ) → k < length old → get_or (new ++ here ∷ []) k 0 ≡ get_or old k 0
  before_all k lt = kept k (omega (arith, w.longer)) ∙ w.before k lt

  -- what is passed follows the next, and the last of it this place
  steps_all : (k : ℕ) → length old ≤ k → k + 1 < length (new ++ here ∷ []) → get_or followed (get_or (new ++ here ∷ []) k 0) None ≡ Some (get_or (new ++ here ∷ []) (k + 1) 0)
  steps_all k le lt = ⊎_elim
      (λ (inner : k + 1 < length new).
      ap (λ p. get_or followed p None) (kept k (omega arith)) ∙ w.steps k le inner ∙ ap Some (sym (kept (k + 1) inner)))
      (λ (outer : length new ≤ k + 1).
      let within : k < length new = omega (arith, more) in
      let at_end : length new ≡ k + 1 = omega (arith, more) in
      ap (λ p. get_or followed p None) (kept k within) ∙ w.next k le (sym at_end) ∙ ap Some (sym (last (k + 1) at_end)))
      (cases_lt (k + 1) (length new))

  pub start_among : IsAmong (new ++ here ∷ []) start
  start_among = ⊎_elim (λ e. IsAmong-last new here start e) (λ a. IsAmong-push new here start a) w.begun

  pub Walking-more : (p : ℕ) → get_or followed here None ≡ Some p → Walking followed old (new ++ here ∷ []) start p
  Walking-more p e = record {
    longer = omega (arith, more, w.longer);
    before = before_all;
    steps = steps_all;
    next = λ k le at_end. let ended : length new ≡ k = omega (arith, more) in ap (λ q. get_or followed q None) (last k ended) ∙ e;
    begun = inr start_among;
  }

  -- this place follows none
  pub Walked-out : get_or followed here None ≡ None → Walked followed old (new ++ here ∷ []) None
  Walked-out e = record {
    longer = omega (arith, more, w.longer);
    before = before_all;
    steps = steps_all;
    ends = λ k p le at_end follows.
        let ended : length new ≡ k = omega (arith, more) in
        absurd (none-some p (sym e ∙ ap (λ q. get_or followed q None) (sym (last k ended)) ∙ follows));
  }

  module _ (indices : List (Option ℕ)) (numbered : AreNumbered indices new) (i : ℕ) (there : get_or indices here None ≡ Some i) where
    pub start_passed : IsPassed indices start
    start_passed = ⊎_elim (λ (e : here ≡ start). ap (λ q. is_some (get_or indices q None)) (sym e) ∙ ap is_some there) (IsPassed-among indices new start numbered) w.begun

    -- an earlier walk passed this place
    pub Walked-earlier : i < length old → Walked followed old new None
    Walked-earlier lt = record {
      longer = w.longer;
      before = w.before;
      steps = w.steps;
      ends = λ k p le at_end follows.
          (i, lt, (numbered.only here i there).1 ∙ same_Some here p (sym (w.next k le at_end) ∙ follows));
    }

    -- this walk did
    pub Walked-round : length old ≤ i → Walked followed old new (Some i)
    Walked-round le = record {
      longer = w.longer;
      before = w.before;
      steps = w.steps;
      ends = (
        le,
        (numbered.only here i there).0,
        λ k at_end.
            let within : i < length new = (numbered.only here i there).0 in
            w.next k (omega arith) at_end ∙ ap Some (sym (numbered.only here i there).1),
      );
    }
