use Rattle.std.specs.Prelude.{◌≡◌, drop}
use Rattle.ptpm_journal.specs.Frames.{are_zeros}
use Rattle.ptpm_journal.proofs.framing.are_zeros.Given as goal

-- those before are zeros
abbrev pub invariant-loop-octet : goal.invariant-loop-octet
invariant-loop-octet l = are_zeros (drop l.octet-index l.octets) ≡ are_zeros l.octets
