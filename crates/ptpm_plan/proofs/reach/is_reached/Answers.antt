-- Whether it is passed on at one more number of hops.
use Rattle.std.proofs.Common.{arith, rules}
use Rattle.std.proofs.lemmas.Grind.{common_steps}
use Rattle.ptpm_plan.specs.Reach.{is_reached}
use Rattle.ptpm_plan.proofs.reach.is_reached.Goals as goal

pub loop-before-init : goal.loop-before-init
unfolding is_reached
loop-before-init c = search rules

pub loop-before-preserved : goal.loop-before-preserved
unfolding is_reached
loop-before-preserved c = grind (arith, common_steps)
