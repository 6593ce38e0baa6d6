-- Of the findings so far each has its remark.
use Rattle.std.proofs.Common.{◌≡◌, length, map, take}
use Rattle.ptpm_site_report.proofs.finding.remarks.remarks_of.Given as goal

abbrev pub invariant-loop-place : goal.invariant-loop-place
invariant-loop-place l = record {
  findings : map (λ r. r.finding.now) l.remarks.items ≡ take l.place l.picture.findings.items;
  causes : length l.causes ≡ length l.picture.findings.items → map (λ r. r.cause) l.remarks.items ≡ take l.place l.causes;
}
