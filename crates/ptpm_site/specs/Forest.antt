-- Who follows whom, as the program keeps it, sorted.
use Rattle.std.specs.Prelude.{◌≡◌, ℕ, List, Option, Some, None, slice_index_or}
use Rattle.std.specs.List.{All, Contains}
use Rattle.std.specs.List.Sorted.{IsNonDecreasingBy}
use Rattle.ptpm_site.specs.declared.tree.forest.Follower.{Follower}
use Rattle.ptpm_site.specs.declared.tree.forest.Lost.{Lost}
use Rattle.ptpm_site.specs.declared.tree.TreeRow.{TreeRow}
use Rattle.ptpm_site.specs.declared.tree.TreeRow.TheVariants as row

-- a follower, by the place that each clock follows
abbrev pub IsFollower : List (Option ℕ) → Follower → Type 0
IsFollower followed f = slice_index_or followed f.place None ≡ Some f.above

-- each of them is one, and they come by the clock that they follow
pub record AreFollowers (followed : List (Option ℕ)) (followers : List Follower) : Type 0 where
  pub follow : All (IsFollower followed) followers
  pub ordered : IsNonDecreasingBy (λ (f : Follower). f.above) followers

-- they come by their domain
abbrev pub AreByDomain : List Lost → Type 0
AreByDomain lost = IsNonDecreasingBy (λ (l : Lost). l.domain.0) lost

-- a row is of what the clock at a place follows, as it is kept
abbrev pub IsKeptFollowed : List (Option ℕ) → List Lost → ℕ → TreeRow → Type 0
IsKeptFollowed followed lost place (row.Clock above depth) = slice_index_or followed place None ≡ Some above
IsKeptFollowed followed lost place (row.NotSeen domain parent) = let l : Lost = record { domain = domain; parent = parent; place = place } in Contains lost l
