use Rattle.ptpm_network.proofs.Exchanging.{delivery-taken, delivery-step, reports-answer, replied}
use Rattle.ptpm_network.proofs.way_laws.one_copy_each_way.Goals as goal
use Rattle.ptpm_network.proofs.Common.{HasReplied, run, issued, sym, HasReported, arith, subst, le-ltb, NetworkState, AtSession, ◌+◌, AtPort, initial_state, IsForOne, ◌-◌}
use Rattle.ptpm_network.proofs.Reaching.{reached, frame_at-is}

pub returns-clause-in_time : goal.returns-clause-in_time
returns-clause-in_time c = λ w s. let now = le-ltb (issued w s + 32768) (issued w s) (omega arith) in (now, now)

pub returns-clause-taken : goal.returns-clause-taken
returns-clause-taken c = delivery-taken

pub returns-clause-request : goal.returns-clause-request
returns-clause-request c = λ N es n s port f net range place e end origin for_one heard room.
    let w : NetworkState = run N (initial_state N) es in
    let r = reached N es net range in
    subst (λ (u : NetworkState). HasReplied N w u s port f.octets) (sym (delivery-step N w n f (AtPort (N.session s).target port) e end room))
    (replied N w s port f net r place (frame_at-is N w n f r e) end origin for_one heard)

pub returns-clause-reply : goal.returns-clause-reply
returns-clause-reply c = λ N es n s f net range place e end origin busy domain room.
    let w : NetworkState = run N (initial_state N) es in
    let r = reached N es net range in
    subst (λ (u : NetworkState). HasReported w u s) (sym (delivery-step N w n f (AtSession s) e end room))
    (reports-answer N w s f net r place (frame_at-is N w n f r e) origin busy domain)

pub returns-clause-for_one : goal.returns-clause-for_one
returns-clause-for_one c = λ N es s net range place same.
    let w : NetworkState = run N (initial_state N) es in
    λ q e. subst (λ p. IsForOne p q) same (((reached N es net range).sessions s place).asked (issued w s - 1) q e).one
