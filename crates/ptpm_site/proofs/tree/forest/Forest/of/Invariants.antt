-- The clocks so far are among those that follow others, where they do.
use Rattle.std.specs.List.{All}
use Rattle.ptpm_site.specs.Forest.{IsFollower}
use Rattle.ptpm_site.proofs.tree.forest.Forest.of.Given as goal

abbrev pub invariant-loop-place : goal.invariant-loop-place
invariant-loop-place l = All (IsFollower l.followed.items) l.following.followers.items
