use Rattle.std.proofs.Common.{◌≡◌, ℕ, ◌<◌, false}
use Rattle.ptpm_host.specs.PassedOn.{is_noted, nth_from}
use Rattle.ptpm_host.proofs.passed_on.has_from.Given as goal

-- none of the places before has the message
abbrev pub invariant-loop-i : goal.invariant-loop-i
invariant-loop-i l = (k : ℕ) → k < l.i → is_noted l.now l.key (nth_from l.places l.first k) ≡ false
