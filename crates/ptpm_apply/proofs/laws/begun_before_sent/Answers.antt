use Rattle.ptpm_apply.proofs.InTurn.{begun_before}
use Rattle.ptpm_apply.proofs.laws.begun_before_sent.Goals as goal

pub returns : goal.returns
returns c = begun_before
