use Rattle.ptpm_network.proofs.Standing.{stands-initial_state, stands-turned}
use Rattle.ptpm_network.proofs.laws.clocks_stand.Goals as goal
use Rattle.ptpm_network.proofs.Frames.{heard-frame}
use Rattle.ptpm_network.proofs.Common.{initial_state, NetworkState, run, subst, HasEnd}
use Rattle.ptpm_network.proofs.Reaching.{frame_at-is, reached}
use Rattle.ptpm_network.proofs.Running.{in_window}

pub returns-clause-first : goal.returns-clause-first
returns-clause-first c = stands-initial_state

-- a running network that is where a schedule leads is there after a turn, too
pub returns-clause-turned : goal.returns-clause-turned
returns-clause-turned c = λ N es first r k c port f n i firsts at e end late.
    let w : NetworkState = run N (initial_state N) es in
    let reached' = reached N es n i in
    let frame = frame_at-is N w k f reached' e in
    let place = (subst (HasEnd N) end frame.end).0 in
    stands-turned N first r w c port f at place
    (λ copy is. in_window first N w c port f copy firsts n reached' place (heard-frame N w f.octets f.origin frame.origin) late is)
