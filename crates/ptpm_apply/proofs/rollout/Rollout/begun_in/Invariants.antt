use Rattle.std.proofs.Common.{◌≡◌, ◌<◌, ℕ}
use Rattle.ptpm_apply.specs.Rollout.{IsBegun, clock_in, clock_of}
use Rattle.ptpm_apply.proofs.rollout.Rollout.begun_in.Given as goal

abbrev pub invariant-loop-step : goal.invariant-loop-step
invariant-loop-step l = (step : ℕ) → step < l.step → clock_of l.self step ≡ clock_in l.self l.lane → IsBegun l.self.journal step → ⊥
