use Rattle.ptpm_network.proofs.Answerable.{answerable-alone}
use Rattle.ptpm_network.proofs.Reporting.{ready-answerable, reports-run}
use Rattle.ptpm_network.proofs.meanwhile_laws.answerable_meanwhile.Goals as goal
use Rattle.ptpm_network.proofs.Promise.{firsts, first_of_sessions}
use Rattle.ptpm_network.proofs.Common.{NetworkState, PortIdentity, subst, initial_state, ℕ, Stands, run, network_run, AreFirsts}
use Rattle.ptpm_network.proofs.Reaching.{reached}
use Rattle.ptpm_network.proofs.Taking.{taken-in_time}
use Rattle.ptpm_network.proofs.Running.{network_run-stands}

pub returns-clause-answered : goal.returns-clause-answered
returns-clause-answered c = ready-answerable

pub returns-clause-alone : goal.returns-clause-alone
returns-clause-alone c = answerable-alone

-- in whatever way the machine reports
pub returns-clause-runs : goal.returns-clause-runs
returns-clause-runs c = λ N past es r s at place range whole time h.
    let w : NetworkState = run N (initial_state N) past in
    let first : ℕ → PortIdentity → ℕ = first_of_sessions N N.sessions in
    let given : AreFirsts N first = firsts N at.promised.network in
    let n = at.promised.network in
    let now = at.stands first given in
    let next = network_run-stands N first r w es given n (reached N past n at.promised.in_range) now range (taken-in_time N w es time) in
    reports-run N first r w s es place now h (subst (λ ts. Stands N first (network_run N r es) (run N w ts)) whole next)
