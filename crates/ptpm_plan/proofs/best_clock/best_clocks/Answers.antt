-- What is said of one more domain.
use Rattle.std.proofs.Common.{arith, rules}
use Rattle.std.proofs.lemmas.Grind.{common_steps}
use Rattle.ptpm_plan.specs.BestClock.{best_clocks}
use Rattle.ptpm_plan.proofs.best_clock.best_clocks.Goals as goal

pub loop-domain-init : goal.loop-domain-init
unfolding best_clocks
loop-domain-init c = search rules

pub loop-domain-preserved : goal.loop-domain-preserved
unfolding best_clocks
loop-domain-preserved c = grind (arith, common_steps)
