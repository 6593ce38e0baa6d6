use Rattle.std.proofs.Common.{length}
use Rattle.ptpm_table.proofs.managers.+rights_of.Given as goal

abbrev pub decreases-rights_of : goal.decreases-rights_of
decreases-rights_of l = length l.managers.now
