use Rattle.std.proofs.Common.{length}
use Rattle.ptpm_table.proofs.kept_messages.+resend_each.Given as goal

abbrev pub decreases-resend_each : goal.decreases-resend_each
decreases-resend_each g l = length l.sizes.now
