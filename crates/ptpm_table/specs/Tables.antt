-- Tables of slots, as contracts see them: a `BoundTable`, with sixteen slots in the value, and a `HeapTable`, with a block of them.
use denote.Param.{number}
use Rattle.std.specs.FinMap.{from_entries}
use Rattle.std.specs.Global.{Vec}
use Rattle.arrayvec.specs.ArrayVec.{ArrayVec}
use Rattle.ptpm_table.specs.contracts.heap_table.VecSlotSlotMemory.TheImpl as block
use Rattle.ptpm_table.specs.contracts.slot_table.ArrayVecSlotSlotMemory.TheImpl as array
use Rattle.ptpm_table.specs.declared.slot.Slot.{Slot}
use Rattle.ptpm_table.specs.declared.table_over.TableOver.{TableOver}
use Rattle.ptpm_table.specs.Entries.{Entries}
use Rattle.ptpm_table.specs.Managers.{Clock, clock_with}
use Rattle.ptpm_table.specs.Slots.{configured, used}

abbrev pub OfSixteen : Type 0
OfSixteen = TableOver (ArrayVec Slot) (array.ghosts (number 16))

abbrev pub OfBlock : Type 0
OfBlock = TableOver (Vec Slot) block.ghosts

-- `ReplyTable`'s owner and entries, of each
abbrev pub owner_of_sixteen : OfSixteen → Clock
owner_of_sixteen t = clock_with t.clock (configured t.slots.items)

abbrev pub entries_of_sixteen : OfSixteen → Entries
entries_of_sixteen t = from_entries (used t.slots.items)

abbrev pub owner_of_block : OfBlock → Clock
owner_of_block t = clock_with t.clock (configured t.slots.items)

abbrev pub entries_of_block : OfBlock → Entries
entries_of_block t = from_entries (used t.slots.items)
