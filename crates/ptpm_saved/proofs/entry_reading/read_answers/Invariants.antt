use Rattle.std.proofs.Common.{◌≡◌}
use Rattle.ptpm_saved.proofs.ReadingLemmas.{AreRead}
use Rattle.ptpm_saved.proofs.entry_reading.read_answers.Given as goal

abbrev pub invariant-loop-place : goal.invariant-loop-place
invariant-loop-place l = record {
  read : AreRead l.of_port l.count l.fn.octets l.room.answers l._place l.octets;
  most : l.room.most ≡ l.fn.room.most;
}
