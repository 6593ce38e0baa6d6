use Rattle.std.proofs.Common.{◌≡◌, fold, take}
use Rattle.ptpm_plan.specs.Asking.{rows_of_wishes}
use Rattle.ptpm_plan.specs.Rows.{with_row}
use Rattle.ptpm_plan.proofs.asking.Known.ask_wishes.Given as goal

-- the rows of the wishes so far are added
abbrev pub invariant-loop-wish : goal.invariant-loop-wish
invariant-loop-wish l =
    l.rows.items ≡ fold with_row l.initial.rows.items (rows_of_wishes l.self.answers.now.list.items l.of l.port (take l.wish-index l.wishes))
