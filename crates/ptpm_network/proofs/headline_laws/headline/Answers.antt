use Rattle.ptpm_network.proofs.Promise.{stands-headline}
use Rattle.ptpm_network.proofs.headline_laws.headline.Goals as goal

pub returns : goal.returns
returns c = stands-headline
