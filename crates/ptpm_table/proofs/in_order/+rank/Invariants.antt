use Rattle.std.proofs.Common.{length}
use Rattle.ptpm_table.proofs.in_order.+rank.Given as goal

abbrev pub decreases-rank : goal.decreases-rank
decreases-rank l = length l.places.now
