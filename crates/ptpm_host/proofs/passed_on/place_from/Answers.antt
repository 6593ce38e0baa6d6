use Rattle.std.proofs.Common.{arith}
use native.Mathlib.Nat.{mod-eq-sub-mod, mod-eq_of_lt}
use Rattle.ptpm_host.proofs.passed_on.place_from.Goals as goal

pub returns-then-place-count-clause-place : goal.returns-then-place-count-clause-place
returns-then-place-count-clause-place c = grind (arith, mod-eq_of_lt)

pub returns-else-place-count-clause-place : goal.returns-else-place-count-clause-place
returns-else-place-count-clause-place c = grind (arith, mod-eq-sub-mod, mod-eq_of_lt)
