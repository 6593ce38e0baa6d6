use Rattle.ptpm_device.proofs.Steps as law
use Rattle.ptpm_device.proofs.laws.silent_device.Goals as goal

pub returns-clause-silent : goal.returns-clause-silent
returns-clause-silent c = law.turn_said-silent

pub returns-clause-none : goal.returns-clause-none
returns-clause-none c = law.is_relayed-alone

pub returns-clause-own : goal.returns-clause-own
returns-clause-own c = law.refusal_in-alone
