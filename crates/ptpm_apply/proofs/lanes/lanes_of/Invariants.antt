use Rattle.ptpm_apply.specs.Lanes.{AreLanesOf}
use Rattle.ptpm_apply.proofs.lanes.lanes_of.Given as goal

abbrev pub invariant-loop-step : goal.invariant-loop-step
invariant-loop-step l = AreLanesOf l.steps l.step-index l.lanes.items
