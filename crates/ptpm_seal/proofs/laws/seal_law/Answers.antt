use Rattle.ptpm_seal.proofs.SealLaws.{found}
use Rattle.ptpm_seal.proofs.laws.seal_law.Goals as goal

pub returns : goal.returns
returns c = found
