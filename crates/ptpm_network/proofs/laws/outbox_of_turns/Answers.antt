use Rattle.ptpm_network.proofs.Posting.{turn-answers, turn-passes_on}
use Rattle.ptpm_network.proofs.laws.outbox_of_turns.Goals as goal

pub returns-clause-forwards : goal.returns-clause-forwards
returns-clause-forwards c = turn-passes_on

pub returns-clause-replies : goal.returns-clause-replies
returns-clause-replies c = turn-answers
