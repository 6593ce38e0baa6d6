use Rattle.std.proofs.Common.{◌≡◌, ℕ, ◌<◌, true}
use Rattle.ptpm_host.specs.PassedOn.{is_live, nth_from}
use Rattle.ptpm_host.proofs.passed_on.free_from.Given as goal

-- in each of the places before something is noted
abbrev pub invariant-loop-i : goal.invariant-loop-i
invariant-loop-i l = (k : ℕ) → k < l.i → is_live l.now (nth_from l.places l.first k) ≡ true
