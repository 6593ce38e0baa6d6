use Rattle.ptpm_world.proofs.Taking.{Left}
use Rattle.ptpm_world.proofs.writing.write_whole.Given as goal

-- what is gone from the rest was taken
abbrev pub invariant-loop : goal.invariant-loop
invariant-loop g l = Left l.octets l.rest (g.W.Write.contents l.initial.out) (g.W.Write.contents l.out)
