use Rattle.ptpm_network.proofs.laws.hops_lost.Goals as goal
use Rattle.ptpm_network.proofs.Common.{arith}
use Rattle.ptpm_network.specs.Machine.{state_after}
use Rattle.ptpm_network.proofs.Reaching.{reached, frame_at-is}

pub returns-clause-hops : goal.returns-clause-hops
returns-clause-hops c = λ N es k f n i e. omega (arith, (frame_at-is N (state_after N es) k f (reached N es n i) e).hops)

pub returns-clause-forwardings : goal.returns-clause-forwardings
returns-clause-forwardings c = λ N es k f n i e. omega (arith, (frame_at-is N (state_after N es) k f (reached N es n i) e).hops)
