use Rattle.ptpm_network.proofs.Running.{copies-in_window, copies-numbered, in_window}
use Rattle.ptpm_network.proofs.laws.in_the_window.Goals as goal
use Rattle.ptpm_network.proofs.Common.{subst, NetworkState, run, initial_state, sets_once, HasEnd}
use Rattle.ptpm_network.proofs.Reaching.{frame_at-is, reached}
use Rattle.ptpm_network.proofs.Frames.{heard-frame}

-- a frame that was sent
pub returns-clause-copy : goal.returns-clause-copy
returns-clause-copy c = λ N es first k c port f copy n i firsts e end late is.
    let w : NetworkState = run N (initial_state N) es in
    let r = reached N es n i in
    let frame = frame_at-is N w k f r e in
    in_window first N w c port f copy firsts n r (subst (HasEnd N) end frame.end).0 (heard-frame N w f.octets f.origin frame.origin) late is

pub returns-clause-numbered : goal.returns-clause-numbered
returns-clause-numbered c = copies-numbered

pub returns-clause-copies : goal.returns-clause-copies
returns-clause-copies c = copies-in_window

pub returns-clause-sets : goal.returns-clause-sets
returns-clause-sets c = λ N es first c n i firsts late place.
    sets_once (N.clock c) (first c) (N.start c) ((run N (initial_state N) es).arrivals c) (copies-numbered N es first c n i firsts place) (copies-in_window N es c n i late place)
