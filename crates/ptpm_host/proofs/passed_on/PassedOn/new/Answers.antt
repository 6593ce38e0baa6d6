use Rattle.ptpm_host.proofs.PassedOnLaws.{nothing_live}
use Rattle.ptpm_host.proofs.passed_on.PassedOn.new.Goals as goal

pub returns-clause-empty : goal.returns-clause-empty
returns-clause-empty c = nothing_live
