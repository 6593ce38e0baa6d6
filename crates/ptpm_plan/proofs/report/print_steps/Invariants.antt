use Rattle.std.proofs.Common.{take}
use Rattle.ptpm_plan.specs.Printed.{AreNumbered, IsStep, Writes}
use Rattle.ptpm_plan.proofs.report.print_steps.Given as goal

abbrev pub invariant-loop-place : goal.invariant-loop-place
invariant-loop-place g l =
    Writes (AreNumbered (IsStep l.surveyed) 1 (take l.place l.changes)) (g.O.Write.contents l.initial.out) (g.O.Write.contents l.out)
