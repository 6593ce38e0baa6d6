use Rattle.ptpm_world.proofs.Common.{take, flat_map, Appends, report_line}
use Rattle.ptpm_world.proofs.trace.write_session.Given as goal

-- the reports so far are written
abbrev pub invariant-loop-report : goal.invariant-loop-report
invariant-loop-report g l =
    Appends (g.W.Write.contents l.initial.out) (g.W.Write.contents l.out) (flat_map (report_line l.name) (take l.report-index l.reports))
