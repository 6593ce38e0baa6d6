use Rattle.std.proofs.Common.{◌≡◌, flat_map, fold}
use Rattle.std.specs.List.{range_with_len}
use Rattle.ptpm_plan.specs.Asking.{rows_of_every_port}
use Rattle.ptpm_plan.specs.Rows.{with_row}
use Rattle.ptpm_plan.proofs.asking.Known.ask_one.Given as goal

-- the rows of the ports so far are added
abbrev pub invariant-loop-place : goal.invariant-loop-place
invariant-loop-place l =
    l.rows.items ≡ fold with_row l.initial.rows.items (flat_map (rows_of_every_port l.self.answers.now.list.items l.of l.table) (range_with_len 1 l.place))
