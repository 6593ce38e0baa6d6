-- One more clock is changed.
use Rattle.std.proofs.Common.{rules}
use Rattle.std.proofs.lemmas.List.Edits.{map_over_more}
use Rattle.ptpm_plan.specs.BestClock.{after_change}
use Rattle.ptpm_plan.proofs.best_clock.change_ranks.Goals as goal

pub loop-clock-preserved : goal.loop-clock-preserved
loop-clock-preserved c = search (rules, map_over_more (after_change c.args.change.now))
