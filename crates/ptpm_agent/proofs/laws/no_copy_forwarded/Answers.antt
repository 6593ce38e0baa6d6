use Rattle.ptpm_agent.proofs.AtMostOnce as law
use Rattle.ptpm_agent.proofs.laws.no_copy_forwarded.Goals as goal

pub returns : goal.returns
returns c = law.forwards-copy
