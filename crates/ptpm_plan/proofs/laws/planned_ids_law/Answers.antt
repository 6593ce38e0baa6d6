-- ALL has each id.
use Rattle.ptpm_plan.proofs.PlannedIds.{listed}
use Rattle.ptpm_plan.proofs.laws.planned_ids_law.Goals as goal

pub returns : goal.returns
returns c = listed
