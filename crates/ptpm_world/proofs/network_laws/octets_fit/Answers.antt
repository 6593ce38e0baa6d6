use Rattle.ptpm_world.proofs.Common.{arith}
use Rattle.ptpm_world.proofs.network_laws.octets_fit.Goals as goal

pub returns : goal.returns
returns c = λ place. omega (arith, c.type_inv.octets place)
