use Rattle.ptpm_network.proofs.Running.{follows, network_run-running}
use Rattle.ptpm_network.proofs.Reaching.{reached}
use Rattle.ptpm_network.proofs.laws.running_networks_stand.Goals as goal

pub returns-clause-refused : goal.returns-clause-refused
returns-clause-refused c = λ N es first r e n i at. (follows N first r _ n (reached N es n i) at e).reason

pub returns-clause-happened : goal.returns-clause-happened
returns-clause-happened c = λ N es first r e h n i firsts at range is late. (follows N first r _ n (reached N es n i) at e).next h is firsts range late

pub returns-clause-every : goal.returns-clause-every
returns-clause-every c = network_run-running
