use Rattle.std.proofs.Common.{◌≡◌, flat_map, fold, take}
use Rattle.ptpm_plan.specs.Asking.{rows_if_included}
use Rattle.ptpm_plan.specs.Rows.{with_row}
use Rattle.ptpm_plan.proofs.asking.Known.ask_every.Given as goal

-- the rows of the clocks so far are added
abbrev pub invariant-loop-clock : goal.invariant-loop-clock
invariant-loop-clock l =
    l.rows.items ≡ fold with_row l.initial.rows.items (flat_map (rows_if_included l.self.answers.now.list.items l.self.surveyed.now.clocks.items l.table) (take l.clock-index l.clocks))
