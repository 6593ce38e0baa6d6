-- Where a clock is among lanes, and what one more lane makes of them.
use Rattle.std.proofs.Common.{◌≡◌, ◌∙◌, ◌⊎◌, ⊎_elim, inl, inr, ℕ, ◌+◌, ◌-◌, ◌<◌, ◌≤◌, List, length, slice_get, Some, Result, Ok, Err, IfOk, IfErr, sym, ap, subst, arith, refl}
use Rattle.std.specs.List.{insert}
use Rattle.std.specs.List.Sorted.{IsBinarySearchResult, IsNonDecreasingBy, IsSearchInRange}
use Rattle.std.specs.Ordering.{nat_cmp, ordering_index}
use Rattle.std.proofs.lemmas.Bool.{cases_lt}
use Rattle.std.proofs.lemmas.Bool.Decides.{nat_tests}
use Rattle.std.proofs.lemmas.Cmp.{ranked}
use Rattle.std.proofs.lemmas.List.Edits.{get_or-insert_above, get_or-insert_at, get_or-insert_below, length-insert}
use Rattle.std.proofs.lemmas.List.Sorted.{IsNonDecreasingBy-from_default}
use Rattle.ptpm_apply.specs.declared.lane.Lane.{Lane}
use Rattle.ptpm_apply.specs.Lanes.{Adds, AreLanesOf, AreRising, HasPlace, IsGapFor, IsNewFor, IsPlaceOf, clock_at, lane_at, new_lane}
use Rattle.ptpm_apply.specs.declared.planned.Planned.{Planned}

module _ (lanes : List Lane) (rising : AreRising lanes) (clock : ℕ) where
  -- so do the answers of comparing each with a clock
  ranks_rise : IsNonDecreasingBy (λ (l : Lane). ordering_index (nat_cmp l.clock clock)) lanes
  ranks_rise = IsNonDecreasingBy-from_default (λ (l : Lane). ordering_index (nat_cmp l.clock clock)) lanes (new_lane 0)
      (λ i j le inside. let up : clock_at lanes i ≤ clock_at lanes j = grind (arith, rising i j, λ (same : i ≡ j). ap (clock_at lanes) same) in
      grind (arith, nat_tests))

  pub searched : (r : Result ℕ ℕ) → IsSearchInRange r (length lanes) → IsBinarySearchResult (λ (l : Lane). nat_cmp l.clock clock) lanes r
      → record { found : IfOk r (IsPlaceOf lanes clock); absent : IfErr r (IsGapFor lanes clock) }
  searched (Ok i) inside equal =
      record { found = record { inside = inside; is = ranked _ clock _ (sym (equal (new_lane 0))) }; absent = tt }
  searched (Err i) inside parted = record {
    found = tt;
    absent = record {
      inside = inside;
      below = λ j lt. ranked _ clock _ (sym ((parted ranks_rise).0 j (new_lane 0) (omega arith) lt));
      above = λ j le lt. ranked _ clock _ (sym ((parted ranks_rise).1 j (new_lane 0) le lt));
    };
  }

module _ (lanes : List Lane) (clock at : ℕ) (gap : IsGapFor lanes clock at) where
  abbrev more : List Lane
  more = insert lanes at (new_lane clock)

  below_it : (i : ℕ) → i < at → lane_at more i ≡ lane_at lanes i
  below_it i lt = get_or-insert_below lanes at (new_lane clock) (new_lane 0) i lt gap.inside

  at_it : (i : ℕ) → i ≡ at → lane_at more i ≡ new_lane clock
  at_it i here = rw here (get_or-insert_at lanes at (new_lane clock) (new_lane 0) gap.inside)

  above_it : (i : ℕ) → at < i → lane_at more i ≡ lane_at lanes (i - 1)
  above_it i lt = subst (λ (k : ℕ). lane_at more k ≡ lane_at lanes (i - 1)) {x = i - 1 + 1} (omega arith)
      (get_or-insert_above lanes at (new_lane clock) (new_lane 0) (i - 1) (omega arith) gap.inside)

  clock_is : {a b : Lane} → a ≡ b → a.clock ≡ b.clock
  clock_is e = ap (λ (l : Lane). l.clock) e

  rising_insert : AreRising lanes → AreRising more
  rising_insert rising i j lt inside =
      let long = length-insert lanes at (new_lane clock) gap.inside in
      let below : (i : ℕ) → i < at → clock_at more i ≡ clock_at lanes i = λ i h. clock_is (below_it i h) in
      let here : (i : ℕ) → i ≡ at → clock_at more i ≡ clock = λ i h. clock_is (at_it i h) in
      let above : (i : ℕ) → at < i → clock_at more i ≡ clock_at lanes (i - 1) = λ i h. clock_is (above_it i h) in
      grind (
        arith,
        below i,
        here i,
        above i,
        below j,
        here j,
        above j,
        rising i j,
        rising i (j - 1),
        rising (i - 1) (j - 1),
        gap.below i,
        gap.above (j - 1),
      )

  side : (a b : ℕ) → (a < b) ⊎ (b ≤ a)
  side a b = grind arith

  has_others : (other : ℕ) → HasPlace lanes other → HasPlace more other
  has_others other place =
      let long = length-insert lanes at (new_lane clock) gap.inside in
      ⊎_elim
      (λ (h : place.0 < at). (place.0, record { inside = omega (arith, place.1.inside, long); is = clock_is (below_it place.0 h) ∙ place.1.is }))
      (λ (h : at ≤ place.0). (
        place.0 + 1,
        record {
          inside = omega (arith, place.1.inside, long);
          is = clock_is (get_or-insert_above lanes at (new_lane clock) (new_lane 0) place.0 h gap.inside) ∙ place.1.is;
        },
      ))
      (side place.0 at)

  from_where : (i : ℕ) → i < length more
      → (lane_at more i ≡ new_lane clock) ⊎ ((j : ℕ) × (j < length lanes) × (lane_at more i ≡ lane_at lanes j))
  from_where i inside =
      let long = length-insert lanes at (new_lane clock) gap.inside in
      ⊎_elim (λ (h : i < at). inr (i, omega (arith, gap.inside), below_it i h))
      (λ (h : at ≤ i). ⊎_elim (λ (g : at < i). inr (i - 1, omega (arith, long), above_it i g))
      (λ (g : i ≤ at). inl (at_it i (omega arith))) (side at i)) (side i at)

  pub added : AreRising lanes → Adds clock lanes more
  added rising = record {
    rising = rising_insert rising;
    few = omega (arith, length-insert lanes at (new_lane clock) gap.inside);
    this = (
      at,
      record {
        inside = omega (arith, gap.inside, length-insert lanes at (new_lane clock) gap.inside);
        is = clock_is (at_it at refl);
      },
    );
    others = has_others;
    from = from_where;
  }

module _ (steps : List Planned) (n : ℕ) (old new : List Lane) (p : Planned) (is : slice_get steps n ≡ Some p) where
  covers : AreLanesOf steps n old → Adds p.clock old new → (step : ℕ) (q : Planned) → step < n + 1 → slice_get steps step ≡ Some q
      → HasPlace new q.clock
  covers before adds step q lt found =
      ⊎_elim (λ (h : step < n). adds.others q.clock (before.covered step q h found))
      (λ (h : n ≤ step). let here : step ≡ n = omega arith in
      let same : Some q ≡ Some p = sym found ∙ ap (slice_get steps) here ∙ is in
      let equal : q ≡ p = cc in subst (λ (x : Planned). HasPlace new x.clock) (sym equal) adds.this)
      (cases_lt step n)

  pub one_more : AreLanesOf steps n old → Adds p.clock old new → AreLanesOf steps (n + 1) new
  one_more before adds = record {
    rising = adds.rising;
    few = omega (arith, before.few, adds.few);
    covered = covers before adds;
    new = λ lane inside. ⊎_elim
        (λ (e : lane_at new lane ≡ new_lane p.clock). subst (IsNewFor steps) (sym e) (record {
          is_new = refl;
          step = n;
          planned = p;
          is_step = is;
          here = refl;
        }))
        (λ h. subst (IsNewFor steps) (sym h.2) (before.new h.0 h.1))
        (adds.from lane inside);
  }
