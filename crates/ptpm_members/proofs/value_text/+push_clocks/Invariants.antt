use Rattle.std.proofs.Common.{length}
use Rattle.ptpm_members.proofs.value_text.+push_clocks.Given as goal

abbrev pub decreases-push_clocks : goal.decreases-push_clocks
decreases-push_clocks g l = length l.octets.now
