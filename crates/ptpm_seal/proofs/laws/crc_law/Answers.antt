use Rattle.ptpm_seal.proofs.Remainders.{changed}
use Rattle.ptpm_seal.proofs.laws.crc_law.Goals as goal

pub returns : goal.returns
returns c = changed
