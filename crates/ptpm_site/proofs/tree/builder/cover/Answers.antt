-- A mark that says no changes nothing.
use Rattle.std.proofs.Common.{arith}
use Rattle.std.proofs.lemmas.Grind.{common_steps}
use Rattle.ptpm_site.proofs.Rows.{get_or-more_false}
use Rattle.ptpm_site.proofs.tree.builder.cover.Goals as goal

pub loop-marks-preserved : goal.loop-marks-preserved
loop-marks-preserved c = λ p. grind (arith, common_steps, get_or-more_false, c.loop-marks.invariant p)
