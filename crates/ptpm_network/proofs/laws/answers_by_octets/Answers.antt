use Rattle.ptpm_network.proofs.laws.answers_by_octets.Goals as goal
use Rattle.ptpm_network.proofs.Reaching.{reached, frame_at-is}
use Rattle.ptpm_network.proofs.Common.{NetworkState, subst, HasEnd, run, initial_state}
use Rattle.ptpm_network.proofs.Receiving.{received-as_reported}

pub returns : goal.returns
returns c = λ N es k s f r n i e end late.
    let w : NetworkState = run N (initial_state N) es in
    let reached' = reached N es n i in
    let frame = frame_at-is N w k f reached' e in
    received-as_reported N w s f r n reached' (subst (HasEnd N) end frame.end) frame.origin late
