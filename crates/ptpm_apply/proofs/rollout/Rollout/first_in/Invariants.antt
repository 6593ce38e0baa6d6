use Rattle.std.proofs.Common.{◌<◌, ℕ}
use Rattle.ptpm_apply.specs.Going.{IsIn}
use Rattle.ptpm_apply.proofs.rollout.Rollout.first_in.Given as goal

abbrev pub invariant-loop-step : goal.invariant-loop-step
invariant-loop-step l = (step : ℕ) → step < l.step → IsIn l.self l.lane l.is_told step → ⊥
