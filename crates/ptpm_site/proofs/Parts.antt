-- The part of a sorted list that is of one number.
use Rattle.std.proofs.Common.{◌≡◌, ℕ, ◌+◌, ◌-◌, ◌<◌, ◌≤◌, true, false, List, [], length, get_or, drop, Option, Some, None, Bor, sym, ap, subst, ◌∙◌, arith}
use Rattle.std.proofs.lemmas.Bool.{leb-true, ltb-false}
use Rattle.std.proofs.lemmas.List.{get_or-drop, get_or-take}
use Rattle.std.specs.List.{All, slice_range}
use Rattle.std.specs.List.Sorted.{IsPartitionPoint}
use Rattle.std.specs.Option.{unwrap_or}
use Rattle.std.specs.Slice.{IsGetRangeResult}
use lib.Dec.{ltb, leb}

module _ {X : Type 0} (number : X → ℕ) (P : X → Type 0) (xs : List X) (n from to : ℕ)
    (low : IsPartitionPoint (λ x. ltb (number x) n ≡ true) (λ x. ltb (number x) n ≡ false) xs from)
    (high : IsPartitionPoint (λ x. leb (number x) n ≡ true) (λ x. leb (number x) n ≡ false) xs to)
    (to_within : to ≤ length xs)
    (each : All P xs) where
  inside : (k : ℕ) (d : X) → from ≤ k → k < to → P (get_or xs k d) × (number (get_or xs k d) ≡ n)
  inside k d le lt =
      let least : n ≤ number (get_or xs k d) = ltb-false (number (get_or xs k d)) n (low.1 k d le (omega arith)) in
      let most : number (get_or xs k d) ≤ n = leb-true (number (get_or xs k d)) n (high.0 k d (omega arith) lt) in
      (each k d (omega arith), omega arith)

  at_index : (k : ℕ) (d : X) → k < to - from → get_or (slice_range xs from to) k d ≡ get_or xs (from + k) d
  at_index k d lt = get_or-take (to - from) (drop from xs) k d lt ∙ get_or-drop from xs k d

  -- the part between the two points
  pub all_between : (r : Option (Bor (List X))) (e part : Bor (List X)) → part ≡ unwrap_or r e → IsGetRangeResult xs from to r → e.now ≡ []
      → All (λ x. P x × (number x ≡ n)) part.now
  all_between None e part is h none = subst (All (λ x. P x × (number x ≡ n))) (sym (ap (λ (b : Bor (List X)). b.now) is ∙ none)) (λ k d lt. absurd (omega arith))
  all_between (Some whole) e part is h none =
      subst (All (λ x. P x × (number x ≡ n))) (sym (ap (λ (b : Bor (List X)). b.now) is ∙ h.0.2)) (λ k d lt.
      let long : length whole.now + from ≡ to = h.0.3 in
      let same : length whole.now ≡ length (slice_range xs from to) = ap length h.0.2 in
      let below : k < to - from = omega arith in
      subst (λ x. P x × (number x ≡ n)) (sym (at_index k d below)) (inside (from + k) d (omega arith) (omega arith)))
