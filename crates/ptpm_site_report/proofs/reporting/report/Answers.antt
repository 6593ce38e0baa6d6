-- The picture that is printed is the judge's.
use Rattle.std.proofs.Common.{rules}
use Rattle.ptpm_site_report.proofs.reporting.report.Goals as goal

pub returns : goal.returns
returns g c = (
  c.in_ok-shown.shown.site,
  c.in_ok-picture.picture,
  c.in_ok-came.ensures.0,
  search rules,
  c.in_ok-came.ensures.1,
  c.in_ok-came.ensures.2,
)
