use Rattle.std.proofs.Common.{◌≡◌, ◌≤◌, ◌*◌, length, take}
use Rattle.std.specs.FinMap.{entries}
use Rattle.ptpm_saved.specs.declared.image.TheConstants.{ENTRY_OCTETS}
use Rattle.ptpm_saved.specs.Image.{entries_image}
use Rattle.ptpm_saved.proofs.image.entries_size.Given as goal

abbrev pub invariant-loop-index : goal.invariant-loop-index
invariant-loop-index g l = record {
  size : l.size ≡ length (entries_image (take l.index (entries (g.T.ReplyTable.entries l.table))));
  small : l.size ≤ l.index * ENTRY_OCTETS;
}
