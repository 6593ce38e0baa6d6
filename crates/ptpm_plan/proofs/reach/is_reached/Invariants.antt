-- Whether it is passed on at the numbers of hops so far.
use Rattle.std.proofs.Common.{◌≡◌}
use Rattle.ptpm_plan.specs.Reach.{is_reached}
use Rattle.ptpm_plan.proofs.reach.is_reached.Given as goal

abbrev pub invariant-loop-before : goal.invariant-loop-before
invariant-loop-before l = l.reached ≡ is_reached l.changes l.clocks l.domain l.before
