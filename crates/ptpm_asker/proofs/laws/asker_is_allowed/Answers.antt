use Rattle.ptpm_asker.proofs.Allowed.{is_allowed}
use Rattle.ptpm_asker.proofs.laws.asker_is_allowed.Goals as goal

pub returns : goal.returns
returns c = is_allowed
