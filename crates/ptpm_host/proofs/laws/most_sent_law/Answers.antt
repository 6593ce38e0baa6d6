use Rattle.ptpm_host.proofs.MostSent.{sends_no_more, sends_no_more_alone, sends_no_more_here}
use Rattle.ptpm_host.proofs.laws.most_sent_law.Goals as goal

pub returns-clause-said : goal.returns-clause-said
returns-clause-said c = sends_no_more

pub returns-clause-turned : goal.returns-clause-turned
returns-clause-turned c = sends_no_more_alone

pub returns-clause-here : goal.returns-clause-here
returns-clause-here c = sends_no_more_here
