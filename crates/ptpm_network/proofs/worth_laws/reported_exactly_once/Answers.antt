use Rattle.ptpm_network.proofs.Worth.{report-index, report-worth, begins-busy, at_most_once}
use Rattle.ptpm_network.proofs.worth_laws.reported_exactly_once.Goals as goal
use Rattle.ptpm_network.proofs.Common.{run, arith, initial_state}
use Rattle.ptpm_network.proofs.Reaching.{reached}
use Rattle.ptpm_network.specs.Machine.{state_after}

pub returns-clause-in_order : goal.returns-clause-in_order
returns-clause-in_order c = report-index

pub returns-clause-worth : goal.returns-clause-worth
returns-clause-worth c = report-worth

pub returns-clause-at_most_once : goal.returns-clause-at_most_once
returns-clause-at_most_once c = λ N es c m k. at_most_once N (state_after N es) c m k

pub returns-clause-last : goal.returns-clause-last
returns-clause-last c = λ N es s k n range place lt le. omega (arith, lt, le, ((reached N es n range).sessions s place).one_at_a_time)

pub returns-clause-busy : goal.returns-clause-busy
returns-clause-busy c = λ N es s a place lt. begins-busy N (run N (initial_state N) es) s a place lt
