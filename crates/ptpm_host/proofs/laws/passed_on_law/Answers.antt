use Rattle.ptpm_host.proofs.PassedOnLaws.{not_twice}
use Rattle.ptpm_host.proofs.laws.passed_on_law.Goals as goal

pub returns : goal.returns
returns c = not_twice
