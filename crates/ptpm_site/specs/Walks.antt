-- Walks from place to place. Each place is passed once.
use Rattle.std.specs.Prelude.{◌≡◌, ℕ, ◌+◌, ◌<◌, ◌≤◌, List, length, Option, Some, None, slice_index, slice_index_or, is_some, true}

-- each place that was passed has its index among those that were passed, and no other has one
pub record AreNumbered (indices : List (Option ℕ)) (passed : List ℕ) : Type 0 where
  pub each : (k : ℕ) → k < length passed → slice_index_or indices (slice_index passed k) None ≡ Some k
  pub only : (p k : ℕ) → slice_index_or indices p None ≡ Some k → (k < length passed) × (slice_index passed k ≡ p)

abbrev pub IsPassed : List (Option ℕ) → ℕ → Type 0
IsPassed indices p = is_some (slice_index_or indices p None) ≡ true

-- how a walk ends: its last place follows none, or one that an earlier walk passed; or one that it passed itself, at this index
abbrev pub Ends : List (Option ℕ) → List ℕ → List ℕ → Option ℕ → Type 0
Ends followed old new None = (k p : ℕ) → length old ≤ k → k + 1 ≡ length new → slice_index_or followed (slice_index new k) None ≡ Some p
    → (i : ℕ) × (i < length old) × (slice_index new i ≡ p)
Ends followed old new (Some back) = (length old ≤ back) × (back < length new)
    × ((k : ℕ) → k + 1 ≡ length new → slice_index_or followed (slice_index new k) None ≡ Some (slice_index new back))

-- one walk: after the places that were passed before, it passes others, and each follows the next
pub record Walked (followed : List (Option ℕ)) (old new : List ℕ) (back : Option ℕ) : Type 0 where
  pub longer : length old ≤ length new
  pub before : (k : ℕ) → k < length old → slice_index new k ≡ slice_index old k
  pub steps : (k : ℕ) → length old ≤ k → k + 1 < length new → slice_index_or followed (slice_index new k) None ≡ Some (slice_index new (k + 1))
  pub ends : Ends followed old new back
