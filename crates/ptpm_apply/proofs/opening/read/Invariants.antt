use Rattle.std.proofs.Common.{◌-◌, ◌≤◌, length}
use Rattle.ptpm_journal.specs.State.{state_of}
use Rattle.ptpm_apply.specs.Opening.{AreRead}
use Rattle.ptpm_apply.proofs.opening.read.Given as goal

abbrev pub invariant-records : goal.invariant-records
invariant-records l = (l.whole ≤ length l.octets) × AreRead l.octets l.whole (state_of l.journal) l.journal.crc l.steps.items l.numbers.items

abbrev pub decreases-records : goal.decreases-records
decreases-records l = length l.octets - l.whole
