use Rattle.ptpm_world.proofs.Common.{arith, flat_map, Appends-nil, take_all}
use Rattle.ptpm_world.proofs.Taking.{writes-err, written-cut, written-more}
use Rattle.ptpm_world.proofs.trace.write_session.Goals as goal

pub loop-report-init : goal.loop-report-init
loop-report-init g c = Appends-nil (g.W.Write.contents c.args.out.now)

pub loop-report-preserved : goal.loop-report-preserved
loop-report-preserved g c = grind (arith, written-more)

pub returns : goal.returns
returns g c = grind (arith, flat_map, take_all)

pub returns-in_err-write_shown : goal.returns-in_err-write_shown
returns-in_err-write_shown g c =
    writes-err c.from_residual.result c.in_err-write_shown.field-0.0 c.from_residual.ensures.1 c.in_err-write_shown.ensures.0
    (written-cut _ _ _ _ _ c.loop-report.report-index _ c.loop-report-test.true c.report-item.is c.loop-report.invariant c.in_err-write_shown.ensures.1)
