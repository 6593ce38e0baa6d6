use Rattle.std.proofs.Common.{◌≡◌, ◌+◌, ◌++◌, drop, map}
use Rattle.serde_json.specs.View.{view}
use Rattle.ptpm_plan.specs.PlanObject.{changes_data}
use Rattle.ptpm_plan.proofs.json.change_values.Given as goal

-- the objects so far, and those of the changes that are left
abbrev pub invariant-loop-place : goal.invariant-loop-place
invariant-loop-place l = map view l.values.items ++ changes_data (l.place + 1) (drop l.place l.changes) ≡ changes_data 1 l.changes
