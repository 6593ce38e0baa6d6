use Rattle.ptpm_plan.proofs.Printing.{with_steps}
use Rattle.ptpm_plan.proofs.report.Report.print_with_steps.Goals as goal

pub returns : goal.returns
returns g c =
    with_steps c.args.self.now.plan.now _ _ _ _ _ c.as_slice.ensures.value c.in_ok-print.ensures c.in_ok-write_all.ensures.bytes
    c.in_ok-print_steps.ensures
