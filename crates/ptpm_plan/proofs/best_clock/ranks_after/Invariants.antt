-- The changes so far are done.
use Rattle.std.proofs.Common.{◌≡◌, take}
use Rattle.ptpm_plan.specs.BestClock.{ranks_after}
use Rattle.ptpm_plan.proofs.best_clock.ranks_after.Given as goal

abbrev pub invariant-loop-change : goal.invariant-loop-change
invariant-loop-change l = l.after.items ≡ ranks_after (take l.change-index l.changes) l.ranks
