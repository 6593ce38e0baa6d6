use Rattle.ptpm_device.proofs.Judged as law
use Rattle.ptpm_device.proofs.laws.given_is_answered.Goals as goal

pub returns-clause-answer : goal.returns-clause-answer
returns-clause-answer c = law.given_answer

pub returns-clause-sets : goal.returns-clause-sets
returns-clause-sets c = law.given_stays

pub returns-clause-kept : goal.returns-clause-kept
returns-clause-kept c = law.given_kept_next
