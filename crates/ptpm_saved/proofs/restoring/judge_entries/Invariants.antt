use Rattle.std.proofs.Common.{◌≡◌}
use Rattle.ptpm_saved.proofs.RestoringLemmas.{IsReadSoFar}
use Rattle.ptpm_saved.proofs.restoring.judge_entries.Given as goal

abbrev pub invariant-loop-place : goal.invariant-loop-place
invariant-loop-place l = record {
  so_far : IsReadSoFar l.fn.room.most l.entries.octets.now l.count l._place l.octets l.after;
  most : l.room.most ≡ l.fn.room.most;
}
