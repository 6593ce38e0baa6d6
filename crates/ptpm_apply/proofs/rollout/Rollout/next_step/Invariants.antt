use Rattle.std.proofs.Common.{◌<◌, ℕ}
use Rattle.ptpm_apply.specs.Going.{IsNext}
use Rattle.ptpm_apply.proofs.rollout.Rollout.next_step.Given as goal

abbrev pub invariant-loop-step : goal.invariant-loop-step
invariant-loop-step l = (step : ℕ) → step < l.step → IsNext l.self step → ⊥
