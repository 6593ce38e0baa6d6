use Rattle.std.proofs.Common.{length}
use Rattle.ptpm_table.proofs.managers.+is_configured.Given as goal

abbrev pub decreases-is_configured : goal.decreases-is_configured
decreases-is_configured l = length l.managers.now
