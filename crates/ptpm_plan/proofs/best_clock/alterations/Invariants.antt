-- The changes so far are done, and those of them that alter the best clock are found.
use Rattle.std.proofs.Common.{◌≡◌, take}
use Rattle.ptpm_plan.specs.BestClock.{alterations, best_after, ranks_after}
use Rattle.ptpm_plan.proofs.best_clock.alterations.Given as goal

abbrev pub invariant-loop-place : goal.invariant-loop-place
invariant-loop-place l = record {
  done : l.after.items ≡ ranks_after (take l.place l.changes) l.ranks;
  best : l.was ≡ best_after l.domain l.changes l.ranks l.place;
  found : l.found.items ≡ alterations l.domain l.changes l.ranks l.place;
}
