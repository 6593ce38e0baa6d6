use Rattle.std.proofs.Common.{◌≡◌, flat_map, fold, take}
use Rattle.ptpm_plan.specs.Asking.{rows_of_every}
use Rattle.ptpm_plan.specs.Rows.{with_row}
use Rattle.ptpm_plan.proofs.asking.Known.ask_all.Given as goal

-- the rows of the tables so far are added
abbrev pub invariant-loop-table : goal.invariant-loop-table
invariant-loop-table l =
    l.rows.items ≡ fold with_row l.initial.rows.items (flat_map (rows_of_every l.self.answers.now.list.items l.self.surveyed.now.clocks.items) (take l.table-index l.tables))
