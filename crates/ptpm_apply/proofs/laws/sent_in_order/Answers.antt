use Rattle.ptpm_apply.proofs.InTurn.{sent_in_order}
use Rattle.ptpm_apply.proofs.laws.sent_in_order.Goals as goal

pub returns : goal.returns
returns c = sent_in_order
