use Rattle.ptpm_codec.proofs.RewritingLaws.{less_hop_message, set_hops-source, set_hops-target, set_hops-number, set_hops-behind}
use Rattle.ptpm_codec.proofs.laws.forwarded_message.Goals as goal

pub returns-clause-message : goal.returns-clause-message
returns-clause-message c = λ v d e above. less_hop_message v d e

pub returns-clause-source : goal.returns-clause-source
returns-clause-source c = set_hops-source

pub returns-clause-target : goal.returns-clause-target
returns-clause-target c = set_hops-target

pub returns-clause-number : goal.returns-clause-number
returns-clause-number c = set_hops-number

pub returns-clause-behind : goal.returns-clause-behind
returns-clause-behind c = set_hops-behind
