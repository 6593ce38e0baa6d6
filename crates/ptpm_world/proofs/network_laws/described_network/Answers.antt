use Rattle.ptpm_world.proofs.DescribedLaws.{of_text-network}
use Rattle.ptpm_world.proofs.network_laws.described_network.Goals as goal

pub returns : goal.returns
returns c = of_text-network _ c.args.network.now.of_text
