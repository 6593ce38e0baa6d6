use Rattle.std.proofs.Common.{◌≡◌, ◌++◌, length}
use Rattle.ptpm_members.specs.Typed.{meant}
use Rattle.ptpm_members.proofs.describing.described.Given as goal

abbrev pub invariant-loop-octet : goal.invariant-loop-octet
invariant-loop-octet l = l.text.items ++ meant l.rest ≡ meant l.fn.typed

abbrev pub decreases-loop-octet : goal.decreases-loop-octet
decreases-loop-octet l = length l.rest
