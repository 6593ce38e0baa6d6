use Rattle.std.proofs.Common.{◌≡◌, ◌+◌, ◌*◌, ◌≤◌, length, take}
use Rattle.std.specs.FinMap.{entries}
use Rattle.ptpm_saved.specs.declared.image.TheConstants.{ENTRY_OCTETS}
use Rattle.ptpm_saved.specs.Image.{entries_image, over}
use Rattle.ptpm_saved.proofs.image.write_entries.Given as goal

abbrev pub invariant-loop-index : goal.invariant-loop-index
invariant-loop-index g l = record {
  place : l.place ≡ over l.at (entries_image (take l.index (entries (g.T.ReplyTable.entries l.table)))) l.initial.place;
  end : l.end ≡ l.at + length (entries_image (take l.index (entries (g.T.ReplyTable.entries l.table))));
  small : l.end ≤ l.at + l.index * ENTRY_OCTETS;
}
