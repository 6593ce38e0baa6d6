use Rattle.std.proofs.Common.{arith}
use Rattle.ptpm_plan.specs.Printed.{IsRow}
use Rattle.ptpm_plan.proofs.Printing.{all_lines, line_written, no_lines}
use Rattle.ptpm_plan.proofs.report.Report.print_changes.Goals as goal

pub loop-place-init : goal.loop-place-init
loop-place-init g c = no_lines IsRow (g.O.Write.contents c.args.out.now)

pub loop-place-preserved : goal.loop-place-preserved
loop-place-preserved g c =
    let W = g.O.Write.contents in
    line_written IsRow c.args.changes.now c.loop-place.place c.index-changes-place.result (W c.args.out.now) (W c.loop-place.out)
    (W c.print_change.new.out) (omega (arith, c.loop-place-test.true)) c.index-changes-place.is c.loop-place.invariant
    c.in_ok-print_change.ensures

pub returns : goal.returns
returns g c =
    all_lines IsRow c.args.changes.now c.loop-place.place (g.O.Write.contents c.args.out.now) (g.O.Write.contents c.loop-place.out)
    (omega (arith, c.loop-place-test.false)) c.loop-place.invariant
