use Rattle.ptpm_script.specs.NetworkView.{network_value}
use Rattle.ptpm_script.proofs.NetworkLaw.{of_text-accepted}
use Rattle.ptpm_script.proofs.network_laws.network_law.Goals as goal

pub returns-clause-accepted : goal.returns-clause-accepted
returns-clause-accepted c = of_text-accepted (network_value c.args.network.now) c.args.network.now.of_text
