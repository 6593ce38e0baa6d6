use Rattle.std.proofs.Common.{◌≡◌, take}
use Rattle.std.specs.List.{filter_map}
use Rattle.ptpm_plan.specs.Planned.{change_of}
use Rattle.ptpm_plan.proofs.plan.changes_of.Given as goal

abbrev pub invariant-loop-row : goal.invariant-loop-row
invariant-loop-row l = l.changes.items ≡ filter_map change_of (take l.row-index l.rows)
