-- What is said of the domains so far.
use Rattle.std.proofs.Common.{◌≡◌, map}
use Rattle.ptpm_plan.specs.BestClock.{best_clocks, ranks_of, shown}
use Rattle.ptpm_plan.proofs.best_clock.best_clocks.Given as goal

abbrev pub invariant-loop-domain : goal.invariant-loop-domain
invariant-loop-domain l = map shown l.found.items ≡ best_clocks l.changes (ranks_of l.surveyed) l.domain
