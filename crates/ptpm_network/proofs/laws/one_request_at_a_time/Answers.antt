use Rattle.ptpm_network.proofs.laws.one_request_at_a_time.Goals as goal
use Rattle.ptpm_network.proofs.Common.{ℕ, zero, suc, manager, ◌≡◌, run, Some, accepted_at_target, initial_state, kept_reply, arith, NetworkState, le_trans, ◌<◌, None, Accepted, Network}
use Rattle.ptpm_network.proofs.Accepting.{kept-le}
use Rattle.ptpm_network.proofs.Reaching.{reached}

pub returns-clause-accepted_begun : goal.returns-clause-accepted_begun
returns-clause-accepted_begun c = λ N es s n i place. ((reached N es n i).sessions s place).begun_before

pub returns-clause-begun_accepted : goal.returns-clause-begun_accepted
returns-clause-begun_accepted c = λ N es s n i place. let p = (reached N es n i).sessions s place in omega (arith, p.one_at_a_time, p.accepted_before)

-- an index from 1 on
positive-kept : (k : ℕ) (N : Network) (w : NetworkState) (s : ℕ) (e : Accepted)
    → kept_reply (manager N s) 0 (accepted_at_target N w s) ≡ None
    → kept_reply (manager N s) k (accepted_at_target N w s) ≡ Some e
    → 0 < k
positive-kept zero N w s e none some = absurd (cc)
positive-kept (suc k) N w s e none some = omega arith

pub returns-clause-accepted : goal.returns-clause-accepted
returns-clause-accepted c = λ N es s k n i place.
    let p = (reached N es n i).sessions s place in
    let w : NetworkState = run N (initial_state N) es in (
      λ h. let was = p.without_gap k h.0 h.1 in (was.entry, was.is),
      λ h. (positive-kept k N w s h.0 p.from_one h.1, kept-le (manager N s) k (accepted_at_target N w s) h.0 h.1),
    )

pub returns-clause-reported_begun : goal.returns-clause-reported_begun
returns-clause-reported_begun c = λ N es s n i place. let p = (reached N es n i).sessions s place in le_trans p.accepted_before p.begun_before

pub returns-clause-begun_reported : goal.returns-clause-begun_reported
returns-clause-begun_reported c = λ N es s n i place. ((reached N es n i).sessions s place).one_at_a_time

pub returns-clause-reports : goal.returns-clause-reports
returns-clause-reports c = λ N es s n i place. ((reached N es n i).sessions s place).reports
