use Rattle.ptpm_network.proofs.Served.{served-event, served-first}
use Rattle.ptpm_network.proofs.manager_laws.served_so_far.Goals as goal

pub returns-clause-first : goal.returns-clause-first
returns-clause-first c = served-first

pub returns-clause-event : goal.returns-clause-event
returns-clause-event c = served-event
