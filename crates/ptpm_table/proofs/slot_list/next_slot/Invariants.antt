use Rattle.ptpm_table.proofs.LendingLaws.{IsFound}
use Rattle.ptpm_table.proofs.slot_list.next_slot.Given as goal

abbrev pub invariant-loop-place : goal.invariant-loop-place
invariant-loop-place l = IsFound l.after l.slots l.place l.next
