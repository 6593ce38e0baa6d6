-- The table of ids has each id that a plan may set.
use Rattle.std.proofs.Common.{sym, ◌∙◌, ap}
use Rattle.ptpm_data.specs.ManagementId.{row_of}
use Rattle.ptpm_plan.proofs.PlannedIds.{in_table}
use Rattle.ptpm_plan.proofs.change.PlannedId.row.Goals as goal

pub unreachable-requires : goal.unreachable-requires
unreachable-requires c = in_table c.args.self (sym (c.in_default.ensures ∙ ap row_of c.number.ensures))
