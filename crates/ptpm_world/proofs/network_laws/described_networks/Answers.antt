use Rattle.ptpm_world.proofs.DescribedLaws.{described-network}
use Rattle.ptpm_script.proofs.NetworkLaw.{accepted, sized}
use Rattle.ptpm_world.proofs.network_laws.described_networks.Goals as goal

pub returns : goal.returns
returns c text n h = described-network n (accepted text n h) (sized text n h)
