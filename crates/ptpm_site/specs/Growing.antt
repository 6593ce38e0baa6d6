-- The tree while it grows: what has its row, and what waits for it.
use Rattle.std.specs.Prelude.{◌≡◌, ℕ, ◌+◌, ◌≤◌, List, ◌++◌, Some, None, slice_index_or}
use Rattle.std.specs.List.{All}
use Rattle.std.specs.List.Sorted.{IsNonDecreasingBy}
use Rattle.ptpm_site.specs.declared.tree.forest.Forest.{Forest}
use Rattle.ptpm_site.specs.declared.tree.TreeRow.{TreeRow}
use Rattle.ptpm_site.specs.declared.tree.TreeRow.TheVariants as row
use Rattle.ptpm_site.specs.Forest.{IsKeptFollowed}
use Rattle.ptpm_site.specs.Tree.{AreBelow, IsAbove, StandsBelow}

-- a row is of what the clock at a place follows
abbrev pub IsFollowedIn : Forest → ℕ → TreeRow → Type 0
IsFollowedIn forest place above = IsKeptFollowed forest.followed.items forest.lost.items place above

abbrev pub MayStand : Forest → List TreeRow → TreeRow → Type 0
MayStand forest rows r = StandsBelow (IsFollowedIn forest) rows r

abbrev pub AreTrue : Forest → List TreeRow → Type 0
AreTrue forest rows = AreBelow (IsFollowedIn forest) rows

-- each that waits may come next, at this depth or a deeper one, and the depths do not fall
pub record AreWaiting (forest : Forest) (rows : List TreeRow) (from : ℕ) (waiting : List (ℕ × ℕ)) : Type 0 where
  pub stand : All (λ w. MayStand forest rows (row.Clock w.0 w.1)) waiting
  pub deep : All (λ w. from ≤ w.1) waiting
  pub ordered : IsNonDecreasingBy (λ w. w.1) waiting

-- more wait, which follow the clock at a place, one below it
pub record WaitBelow (forest : Forest) (place depth : ℕ) (old new : List (ℕ × ℕ)) : Type 0 where
  pub more : List (ℕ × ℕ)
  pub is : new ≡ old ++ more
  pub follow : All (λ w. (slice_index_or forest.followed.items w.0 None ≡ Some place) × (w.1 ≡ depth + 1)) more

-- what is above a row of a depth up to this one stays so
abbrev pub StaysAbove : ℕ → List TreeRow → List TreeRow → Type 0
StaysAbove depth old new = (n : ℕ) (above : TreeRow) → n ≤ depth → IsAbove old n above → IsAbove new n above
