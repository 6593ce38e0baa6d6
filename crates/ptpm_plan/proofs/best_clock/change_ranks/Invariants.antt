-- The clocks so far are changed, and the others are as they were.
use Rattle.std.proofs.Common.{◌≡◌, ◌++◌, map, take, drop}
use Rattle.ptpm_plan.specs.BestClock.{after_change}
use Rattle.ptpm_plan.proofs.best_clock.change_ranks.Given as goal

abbrev pub invariant-loop-clock : goal.invariant-loop-clock
invariant-loop-clock l = l.ranks ≡ map (after_change l.change) (take l.clock-index l.fn.ranks) ++ drop l.clock-index l.fn.ranks
