-- What is left out leaves the clocks.
use Rattle.std.proofs.Common.{subst}
use Rattle.ptpm_site_report.specs.Reporting.{AreConcluded}
use Rattle.ptpm_site.specs.declared.tree.forest.Forest.{Forest}
use Rattle.ptpm_site_report.proofs.reporting.print_judged.Goals as goal

pub returns : goal.returns
returns g c = (
  c.leave_out.new.picture.findings.items,
  c.in_ok-leave_out.ensures.shown,
  subst (λ (f : Forest). AreConcluded f.sources.items c.leave_out.new.picture.findings.items c.in_ok-came.came) c.in_ok-leave_out.ensures.clocks c.in_ok-came.ensures,
)
