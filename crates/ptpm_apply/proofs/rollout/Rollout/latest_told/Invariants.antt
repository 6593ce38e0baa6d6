use Rattle.std.proofs.Common.{◌<◌, ◌≤◌, ℕ, true, length}
use Rattle.ptpm_apply.specs.Going.{IsIn}
use Rattle.ptpm_apply.proofs.rollout.Rollout.latest_told.Given as goal

abbrev pub invariant-loop-step : goal.invariant-loop-step
invariant-loop-step l = (step : ℕ) → l.step ≤ step → step < length l.self.steps → IsIn l.self l.lane true step → ⊥
