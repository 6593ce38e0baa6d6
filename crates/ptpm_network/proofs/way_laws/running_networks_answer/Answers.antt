use Rattle.ptpm_network.proofs.Reporting.{answered-after, running-answered}
use Rattle.ptpm_network.proofs.way_laws.running_networks_answer.Goals as goal

pub returns-clause-answered : goal.returns-clause-answered
returns-clause-answered c = running-answered

pub returns-clause-after : goal.returns-clause-after
returns-clause-after c = answered-after
