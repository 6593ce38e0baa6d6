-- The best of the clocks so far.
use Rattle.std.proofs.Common.{◌≡◌, take}
use Rattle.ptpm_plan.specs.BestClock.{best_in}
use Rattle.ptpm_plan.proofs.best_clock.best_in.Given as goal

abbrev pub invariant-loop-clock : goal.invariant-loop-clock
invariant-loop-clock l = l.best ≡ best_in l.domain (take l.clock-index l.ranks)
