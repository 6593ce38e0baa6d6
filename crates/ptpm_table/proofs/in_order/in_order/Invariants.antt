use Rattle.std.proofs.Common.{◌≡◌, ◌+◌, ◌≤◌, length}
use Rattle.ptpm_table.specs.InOrder.{AreLendable, entries_at}
use Rattle.ptpm_table.proofs.InOrderLaws.{sorted_from}
use Rattle.ptpm_table.proofs.in_order.in_order.Given as goal

abbrev pub invariant-loop-place : goal.invariant-loop-place
invariant-loop-place l = record {
  entries : entries_at l.slots l.places.items ≡ sorted_from l.slots l.place;
  lendable : AreLendable l.slots l.places.items;
  count : length l.places.items + l.place ≤ length l.slots;
}
