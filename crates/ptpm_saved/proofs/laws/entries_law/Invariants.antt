use Rattle.std.proofs.Common.{◌≡◌, All, take, true}
use Rattle.std.specs.FinMap.{entries}
use Rattle.ptpm_data.specs.declared.ports.TheConstants.{PORTS}
use Rattle.ptpm_table.specs.Entries.{is_known}
use Rattle.ptpm_saved.specs.Image.{EntryIsSound}
use Rattle.ptpm_saved.proofs.EntryOrder.{after_at}
use Rattle.ptpm_saved.proofs.laws.entries_law.Given as goal

abbrev pub invariant-loop-place : goal.invariant-loop-place
invariant-loop-place g l = record {
  sound : All (EntryIsSound PORTS) (take l._place (entries (g.T.ReplyTable.entries l.table)));
  known : All (λ e. is_known e.0 (g.T.ReplyTable.owner l.table).managers ≡ true) (take l._place (entries (g.T.ReplyTable.entries l.table)));
  after : l.after ≡ after_at (entries (g.T.ReplyTable.entries l.table)) l._place;
}
