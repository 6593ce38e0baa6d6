-- There are no rows at first.
use Rattle.std.proofs.Common.{subst, sym}
use Rattle.ptpm_site.specs.Growing.{AreTrue, IsFollowedIn}
use Rattle.ptpm_site.proofs.Rows.{AreBelow-none}
use Rattle.ptpm_site.proofs.tree.rows.Goals as goal

pub loop-place-init : goal.loop-place-init
loop-place-init c = subst (AreTrue c.args.forest.now) (sym c.new-builder.ensures) (AreBelow-none (IsFollowedIn c.args.forest.now))
