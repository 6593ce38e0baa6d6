use Rattle.std.proofs.Common.{◌<◌, ℕ}
use Rattle.ptpm_apply.specs.Going.{IsToCome}
use Rattle.ptpm_apply.proofs.rollout.Rollout.has_to_come.Given as goal

abbrev pub invariant-loop-step : goal.invariant-loop-step
invariant-loop-step l = (step : ℕ) → step < l.step → IsToCome l.self l.lane step → ⊥
