use Rattle.std.proofs.Common.{◌<◌, ℕ}
use Rattle.ptpm_apply.specs.Going.{HasFailed}
use Rattle.ptpm_apply.proofs.rollout.Rollout.failed.Given as goal

abbrev pub invariant-loop-step : goal.invariant-loop-step
invariant-loop-step l = (step : ℕ) → step < l.step → HasFailed l.self step → ⊥
