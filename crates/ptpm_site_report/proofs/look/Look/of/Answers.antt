-- The causes are those that `causes_of` gave.
use Rattle.std.proofs.Common.{rules, ℕ, ◌<◌, length, subst}
use Rattle.ptpm_site_report.proofs.Shown.{rooted}
use Rattle.ptpm_site_report.proofs.look.Look.of.Goals as goal

pub returns-clause-printed : goal.returns-clause-printed
returns-clause-printed c =
    rooted c.in_ok-causes.causes.items c.as_slice.result.now c.in_ok-remarks_of.field-0.items (length c.args.picture.now.findings.items)
    (search rules) c.in_ok-causes.ensures.len c.in_ok-remarks_of.ensures.causes
    (λ some. c.in_ok-causes.ensures.printed (subst (λ (n : ℕ). 0 < n) c.in_ok-causes.ensures.len some))
