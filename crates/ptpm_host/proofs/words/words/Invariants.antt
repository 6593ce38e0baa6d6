use Rattle.std.proofs.Common.{length, map}
use Rattle.ptpm_host.proofs.WordLemmas.{Front}
use Rattle.ptpm_host.proofs.words.words.Given as goal

abbrev pub invariant-loop-rest : goal.invariant-loop-rest
invariant-loop-rest l = Front (map (λ w. w.now) l.words.items) l.rest l.fn.octets

abbrev pub decreases-loop-rest : goal.decreases-loop-rest
decreases-loop-rest l = length l.rest
