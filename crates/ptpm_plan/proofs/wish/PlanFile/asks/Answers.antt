use Rattle.std.proofs.Common.{arith, rules}
use Rattle.std.proofs.lemmas.Grind.{common_steps}
use Rattle.ptpm_plan.specs.Asks.{lines_below}
use Rattle.ptpm_plan.proofs.wish.PlanFile.asks.Goals as goal

pub loop-domain-init : goal.loop-domain-init
unfolding lines_below
loop-domain-init c = search rules

pub loop-domain-preserved : goal.loop-domain-preserved
unfolding lines_below
loop-domain-preserved c = grind (arith, common_steps)
