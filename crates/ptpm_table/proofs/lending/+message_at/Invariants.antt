use Rattle.std.proofs.Common.{length}
use Rattle.ptpm_table.proofs.lending.+message_at.Given as goal

abbrev pub decreases-message_at : goal.decreases-message_at
decreases-message_at l = length l.sizes.now
