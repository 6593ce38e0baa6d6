use Rattle.ptpm_network.proofs.Answerable.{answer-runs, answerable}
use Rattle.ptpm_network.proofs.way_laws.answerable_along_a_way.Goals as goal

pub returns-clause-answered : goal.returns-clause-answered
returns-clause-answered c = answerable

pub returns-clause-runs : goal.returns-clause-runs
returns-clause-runs c = answer-runs
