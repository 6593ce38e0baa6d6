-- Both say the same of these clocks and findings.
use Rattle.std.proofs.Common.{ap, ◌∙◌}
use Rattle.ptpm_site_report.specs.Reporting.{concluded}
use Rattle.ptpm_site_report.proofs.Shown.{agree}
use Rattle.ptpm_site_report.proofs.reporting.came_of.Goals as goal

pub returns : goal.returns
returns c = (c.outcome_of.ensures, ap concluded c.of.ensures ∙ agree _ _ _ c.requires.findings c.requires.printed)
