use Rattle.ptpm_device.proofs.Judged as law
use Rattle.ptpm_device.proofs.laws.relayed_is_decided.Goals as goal

pub returns-clause-turned : goal.returns-clause-turned
returns-clause-turned c = law.relayed_turn

pub returns-clause-refused : goal.returns-clause-refused
returns-clause-refused c = law.relayed_refused

pub returns-clause-asked : goal.returns-clause-asked
returns-clause-asked c = law.relayed_asked
