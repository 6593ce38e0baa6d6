use Rattle.std.proofs.Common.{◌≡◌, ◌≤◌, List, length}
use Rattle.ptpm_saved.specs.Image.{AreEntries, entries_image}
use Rattle.ptpm_saved.proofs.EntryOrder.{Pair}
use Rattle.ptpm_saved.proofs.RestoringLemmas.{IsKeptSoFar}
use Rattle.ptpm_saved.proofs.restoring.keep_entries.Given as goal

abbrev pub invariant-loop-place : goal.invariant-loop-place
invariant-loop-place g l = record {
  owner : g.T.ReplyTable.owner l.agent.table ≡ g.T.ReplyTable.owner l.initial.agent.table;
  most : g.T.ReplyTable.most l.agent.table ≡ g.T.ReplyTable.most l.initial.agent.table;
  sets : l.agent.sets ≡ l.initial.agent.sets;
  room : l.room.most ≡ l.fn.room.most;
  small : l.gone ≤ l._place;
  so_far : (es : List Pair) → AreEntries l.fn.room.most es → length es ≡ l.entries.count → l.entries.octets.now ≡ entries_image es
      → IsKeptSoFar (g.T.ReplyTable.owner l.initial.agent.table).managers es l._place l.octets
      (g.T.ReplyTable.entries l.initial.agent.table) (g.T.ReplyTable.entries l.agent.table) l.gone;
}
