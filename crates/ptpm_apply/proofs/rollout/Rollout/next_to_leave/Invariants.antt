use Rattle.std.proofs.Common.{◌≡◌, ◌<◌, ℕ, false}
use Rattle.std.specs.Prelude.{slice_get}
use Rattle.ptpm_apply.specs.Going.{HasToCome, is_left_lane}
use Rattle.ptpm_apply.proofs.rollout.Rollout.next_to_leave.Given as goal

abbrev pub invariant-loop-lane : goal.invariant-loop-lane
invariant-loop-lane l = (lane : ℕ) → lane < l.lane → is_left_lane (slice_get l.self.lanes lane) ≡ false → HasToCome l.self lane
