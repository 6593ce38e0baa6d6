use Rattle.std.proofs.Common.{◌≡◌, drop}
use Rattle.ptpm_apply.specs.Rollout.{place_from}
use Rattle.ptpm_apply.proofs.lane.place_in.Given as goal

abbrev pub invariant-loop-lane : goal.invariant-loop-lane
invariant-loop-lane l = (l.place ≡ l.lane-index) × (place_from l.place (drop l.lane-index l.lanes) l.clock ≡ place_from 0 l.lanes l.clock)
