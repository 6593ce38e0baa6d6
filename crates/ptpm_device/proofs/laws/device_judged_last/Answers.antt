use Rattle.ptpm_device.proofs.Judged as law
use Rattle.ptpm_device.proofs.laws.device_judged_last.Goals as goal

pub returns-clause-asked : goal.returns-clause-asked
returns-clause-asked c = law.asked-parts

pub returns-clause-wanted : goal.returns-clause-wanted
returns-clause-wanted c = law.wanted-parts

pub returns-clause-not_asked : goal.returns-clause-not_asked
returns-clause-not_asked c = law.objection_not_asked

pub returns-clause-not_wanted : goal.returns-clause-not_wanted
returns-clause-not_wanted c = law.value_not_wanted

pub returns-clause-verdict : goal.returns-clause-verdict
returns-clause-verdict c = law.turn_said-verdict

pub returns-clause-forwards : goal.returns-clause-forwards
returns-clause-forwards c = law.turn_said-forwards

pub returns-clause-asked_each : goal.returns-clause-asked_each
returns-clause-asked_each c = law.asked-whole

pub returns-clause-wanted_each : goal.returns-clause-wanted_each
returns-clause-wanted_each c = law.wanted-whole
