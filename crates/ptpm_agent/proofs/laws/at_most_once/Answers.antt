use Rattle.ptpm_agent.proofs.Deliveries as law
use Rattle.ptpm_agent.proofs.laws.at_most_once.Goals as goal

pub returns-clause-sets : goal.returns-clause-sets
returns-clause-sets c = law.sets_once

pub returns-clause-outbox : goal.returns-clause-outbox
returns-clause-outbox c = law.outbox_due

pub returns-clause-repeats : goal.returns-clause-repeats
returns-clause-repeats c = law.turns-repeat
