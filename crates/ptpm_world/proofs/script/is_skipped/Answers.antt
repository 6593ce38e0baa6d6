use Rattle.ptpm_world.proofs.Common.{ap, begins_comment}
use Rattle.ptpm_world.proofs.script.is_skipped.Goals as goal

pub returns-in-Some : goal.returns-in-Some
returns-in-Some c = ap begins_comment c.in-Some.ensures

pub returns-in-None : goal.returns-in-None
returns-in-None c = ap begins_comment c.in-None.ensures
