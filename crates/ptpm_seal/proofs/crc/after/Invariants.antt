use Rattle.std.proofs.Common.{◌≡◌, drop}
use Rattle.ptpm_seal.specs.Crc.{after}
use Rattle.ptpm_seal.proofs.crc.after.Given as goal

abbrev pub invariant-loop-octet : goal.invariant-loop-octet
invariant-loop-octet l = after l.remainder (drop l.octet-index l.octets) ≡ after l.initial.remainder l.octets
