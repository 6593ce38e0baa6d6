use Rattle.ptpm_script.proofs.NetworkLaw.{accepted}
use Rattle.ptpm_script.proofs.network_laws.accepted_networks.Goals as goal

pub returns : goal.returns
returns c = λ text n is. accepted text n is
