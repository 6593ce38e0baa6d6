-- The clock has its row, and each that had one has it still. What waits stands below what it follows.
use Rattle.std.proofs.Common.{◌≡◌, true, false, get_or}
use Rattle.ptpm_site.specs.Growing.{AreTrue, AreWaiting, StaysAbove}
use Rattle.ptpm_site.specs.Tree.{StaysMarked}
use Rattle.ptpm_site.proofs.tree.builder.TreeBuilder.add_subtree.Given as goal

abbrev pub invariant-grow : goal.invariant-grow
invariant-grow l = record {
  marked : get_or l.self.marks.items l.place false ≡ true;
  stays : StaysMarked l.fn.self.marks.items l.self.marks.items;
  below : AreTrue l.forest l.self.rows.items;
  above : StaysAbove l.depth l.fn.self.rows.items l.self.rows.items;
  waiting : AreWaiting l.forest l.self.rows.items l.depth l.self.waiting.items;
}
