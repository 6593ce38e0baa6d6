use Rattle.ptpm_network.proofs.Promise.{stands-first, stands-event, stands-judged, stands-network_run, stands-refused}
use Rattle.ptpm_network.proofs.headline_laws.stands_after.Goals as goal

pub returns-clause-first : goal.returns-clause-first
returns-clause-first c = stands-first

pub returns-clause-event : goal.returns-clause-event
returns-clause-event c = stands-event

pub returns-clause-refused : goal.returns-clause-refused
returns-clause-refused c = stands-judged

pub returns-clause-unchanged : goal.returns-clause-unchanged
returns-clause-unchanged c = stands-refused

pub returns-clause-every : goal.returns-clause-every
returns-clause-every c = stands-network_run
