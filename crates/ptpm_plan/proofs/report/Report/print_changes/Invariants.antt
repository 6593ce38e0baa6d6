use Rattle.std.proofs.Common.{take}
use Rattle.ptpm_plan.specs.Printed.{AreNumbered, IsRow, Writes}
use Rattle.ptpm_plan.proofs.report.Report.print_changes.Given as goal

abbrev pub invariant-loop-place : goal.invariant-loop-place
invariant-loop-place g l =
    Writes (AreNumbered IsRow 1 (take l.place l.changes)) (g.O.Write.contents l.initial.out) (g.O.Write.contents l.out)
