-- What reports of a running network are worth, and that it runs to the report that a way gives, also if a session is resumed first.
use Rattle.ptpm_network.proofs.Common.{arith, ◌≡◌, ℕ, ◌<◌, ◌≤◌, ◌+◌, List, Some, false, subst, length, cond-true, is_some, slice_get, AllByRecursion, PortIdentity, Report, Event, IsInRange, frames_limit, RunningNetwork, network_run, StandsAfter, run, IsNetwork, Network, AreFirsts, Stands, NetworkState, initial_state, is_idle, Hop, IsAnswerable, IsWay, LinksHaveAtMost, RunsToReport, made_each_way, IsWorth, HasReported, LastIsForOne, [], ◌∷◌, ◌++◌, None, refl, sym, ap, eq-eqb, is_none, Resume, Retune, refusal, happens, step, taken, with_session, SessionState, issued, all_append, with_place-same, AreInTime}
use Rattle.ptpm_network.specs.Way.{ReportsAfter, IsWayIn}
use Rattle.ptpm_network.proofs.Answerable.{answer-runs, answerable, answering, answerable-at}
use Rattle.ptpm_network.proofs.Promise.{first_of_sessions, firsts, stands-network_run}
use Rattle.ptpm_network.proofs.Running.{network_run-stands}
use Rattle.ptpm_network.proofs.Reaching.{reached}
use Rattle.ptpm_network.proofs.Taking.{taken-in_time, run-append}
use Rattle.ptpm_network.proofs.Worth.{report-index, report-worth, session-named}
use Rattle.ptpm_network.specs.Meanwhile.{IsAnswerableMeanwhile, IsReady}
use Rattle.ptpm_network.proofs.Exchanging.{step-taken}
use Rattle.ptpm_network.proofs.RoundTrip.{Hears, way-stays}

-- ---- what reports of a running network are worth, and that it runs to the report that a way gives

-- ---- what reports are worth

-- the reports of a session are those of the machine
reports-after : (N : Network) (past : List Event) (r : RunningNetwork) (s : ℕ)
    → StandsAfter N past r → s < N.sessions
    → r.reports s ≡ ((run N (initial_state N) past).session s).reports
reports-after N past r s at place = (at.stands (first_of_sessions N N.sessions) (firsts N at.promised.network)).reports s place

module _ (N : Network) (past : List Event) (r : RunningNetwork) (s i : ℕ) (report : Report) (at : StandsAfter N past r) (place : s < N.sessions) (e : slice_get (r.reports s) i ≡ Some report) where
  pub index-after : report.index ≡ i + 1
  index-after =
      report-index N past s i report at.promised.network at.promised.in_range place (subst (λ rs. slice_get rs i ≡ Some report) (reports-after N past r s at place) e)

  pub worth-after : IsWorth N (run N (initial_state N) past) s report
  worth-after =
      report-worth N past s i report at.promised.network at.promised.in_range place (subst (λ rs. slice_get rs i ≡ Some report) (reports-after N past r s at place) e)

-- ---- running to the report

pub reports-run : (N : Network) (first : ℕ → PortIdentity → ℕ) (r : RunningNetwork) (w : NetworkState)
    (s : ℕ) (es : List Event)
    → s < N.sessions → Stands N first r w → HasReported w (run N w es) s
    → Stands N first (network_run N r es) (run N w es)
    → ReportsAfter N r s es
reports-run N first r w s es place at h next = grind (arith, is_some, cond-true)

pub running-answered : (N : Network) (es : List Event) (first : ℕ → PortIdentity → ℕ)
    (r : RunningNetwork) (s : ℕ) (hops : List Hop) (port ends : ℕ)
    → IsNetwork N → AllByRecursion IsInRange es → AreFirsts N first
    → Stands N first r (run N (initial_state N) es) → s < N.sessions
    → is_idle ((run N (initial_state N) es).session s) ≡ false
    → 0 < ((run N (initial_state N) es).session s).attempts_left
    → IsWay N (run N (initial_state N) es) s hops port → LinksHaveAtMost N ends
    → length (run N (initial_state N) es).frames + made_each_way ends hops ≤ frames_limit
    → RunsToReport N r s hops port
running-answered N es first r s hops port ends n range firsts at place busy attempts way all room =
    let w : NetworkState = run N (initial_state N) es in
    let a : IsAnswerable N w s hops port = answerable N es s hops port ends n range place busy attempts way all room in
    let more : List Event = answering s a.deliveries in
    let runs = answer-runs N w s hops port a in
    let next = network_run-stands N first r w more firsts n (reached N es n range) at runs.0 (taken-in_time N w more runs.2) in grind (arith, reports-run)

pub answered-after : (N : Network) (past : List Event) (r : RunningNetwork) (s : ℕ)
    (hops : List Hop) (port ends : ℕ)
    → StandsAfter N past r → s < N.sessions
    → is_idle ((run N (initial_state N) past).session s) ≡ false
    → 0 < ((run N (initial_state N) past).session s).attempts_left
    → IsWay N (run N (initial_state N) past) s hops port → LinksHaveAtMost N ends
    → length (run N (initial_state N) past).frames + made_each_way ends hops ≤ frames_limit
    → RunsToReport N r s hops port
answered-after N past r s hops port ends at place busy attempts way all room =
    let first : ℕ → PortIdentity → ℕ = first_of_sessions N N.sessions in
    let given : AreFirsts N first = firsts N at.promised.network in
    running-answered N past first r s hops port ends at.promised.network at.promised.in_range given (at.stands first given) place busy attempts way all room

pub ruleset running_networks_report_laws = (index-after, worth-after)

-- ---- a session that is retuned or resumed first, and then answered along a way

-- ---- they are not refused

pub retune-taken : (N : Network) (w : NetworkState) (s domain : ℕ)
    → s < N.sessions
    → refusal N w (Retune s domain) ≡ None
unfolding refusal
retune-taken N w s domain place = session-named N s place

pub resume-taken : (N : Network) (w : NetworkState) (s attempts : ℕ)
    → s < N.sessions → is_idle (w.session s) ≡ false
    → refusal N w (Resume s attempts) ≡ None
unfolding refusal
resume-taken N w s attempts place busy = grind (arith, session-named)

retune-step : (N : Network) (w : NetworkState) (s domain : ℕ)
    → s < N.sessions
    → step N w (Retune s domain) ≡ with_session w s (record (w.session s) { domain = domain })
unfolding happens
retune-step N w s domain place = step-taken N w (Retune s domain) (retune-taken N w s domain place)

resume-step : (N : Network) (w : NetworkState) (s attempts : ℕ)
    → s < N.sessions → is_idle (w.session s) ≡ false
    → step N w (Resume s attempts) ≡ with_session w s (record (w.session s) { attempts_left = attempts })
unfolding happens
resume-step N w s attempts place busy = step-taken N w (Resume s attempts) (resume-taken N w s attempts place busy)

-- ---- a way stays one

session-set : (w : NetworkState) (s : ℕ) (x : SessionState) → (with_session w s x).session s ≡ x
session-set w s x = with_place-same w.session s x s (eq-eqb s s refl)

-- a session that has begun the same requests, in a state of its own
way-set : (N : Network) (w : NetworkState) (s domain : ℕ) (x : SessionState) (hops : List Hop)
    (port : ℕ)
    → x.begun ≡ (w.session s).begun → IsWayIn N w s domain hops port
    → IsWayIn N (with_session w s x) s domain hops port
way-set N w s domain x hops port begun way =
    let for_one : LastIsForOne N s ((with_session w s x).session s).begun =
    subst (λ (y : SessionState). LastIsForOne N s y.begun) (sym (session-set w s x)) (subst (LastIsForOne N s) (sym begun) way.for_one) in
    let counted : length x.begun ≡ issued w s = ap length begun in grind (arith, session-set, way-stays, Hears)

-- it is there once the session is in a state of its own with attempts left, in the domain of the way
ready-set : (N : Network) (w : NetworkState) (s : ℕ) (x : SessionState) (hops : List Hop)
    (port ends : ℕ)
    → is_idle x ≡ false → 0 < x.attempts_left → x.begun ≡ (w.session s).begun
    → IsWayIn N w s x.domain hops port → length w.frames + made_each_way ends hops ≤ frames_limit
    → IsReady N (with_session w s x) s hops port ends
ready-set N w s x hops port ends busy attempts begun way room = grind (arith, session-set, way-set)

-- ---- events of the session's own

module _ (N : Network) (w : NetworkState) (s : ℕ) (hops : List Hop) (port ends : ℕ) (place : s < N.sessions) (busy : is_idle (w.session s) ≡ false) (room : length w.frames + made_each_way ends hops ≤ frames_limit) where
  pub resumed-ready : (attempts : ℕ)
      → 0 < attempts → IsWay N w s hops port
      → IsReady N (step N w (Resume s attempts)) s hops port ends
  resumed-ready attempts some way = grind (arith, resume-step, ready-set)

  pub retuned-ready : (domain : ℕ)
      → 0 < (w.session s).attempts_left → IsWayIn N w s domain hops port
      → IsReady N (step N w (Retune s domain)) s hops port ends
  retuned-ready domain some way = grind (arith, retune-step, ready-set)

  pub both-ready : (domain attempts : ℕ)
      → 0 < attempts → IsWayIn N w s domain hops port
      → IsReady N (step N (step N w (Retune s domain)) (Resume s attempts)) s hops port ends
  both-ready domain attempts some way = grind (arith, session-set, way-set, retune-step, resume-step, ready-set)

-- the events of a session that is moved to a domain, and may send so often from then on
abbrev pub moving : ℕ → ℕ → ℕ → List Event
moving s domain attempts = Retune s domain ∷ Resume s attempts ∷ []

pub taken-resumed : (N : Network) (w : NetworkState) (s attempts : ℕ)
    → s < N.sessions → is_idle (w.session s) ≡ false
    → taken N w (Resume s attempts ∷ []) ≡ Resume s attempts ∷ []
taken-resumed N w s attempts place busy = cond-true _ _ _ (ap is_none (resume-taken N w s attempts place busy))

pub taken-moved : (N : Network) (w : NetworkState) (s domain attempts : ℕ)
    → s < N.sessions → is_idle (w.session s) ≡ false
    → taken N w (moving s domain attempts) ≡ moving s domain attempts
taken-moved N w s domain attempts place busy = grind (arith, session-set, cond-true, is_none, retune-taken, retune-step, taken-resumed)

-- ---- after any events, and these

-- the request can be answered if the session is ready
pub ready-answerable : (N : Network) (es : List Event) (s : ℕ) (hops : List Hop) (port ends : ℕ)
    → IsNetwork N → AllByRecursion IsInRange es → s < N.sessions → LinksHaveAtMost N ends
    → IsReady N (run N (initial_state N) es) s hops port ends
    → IsAnswerableMeanwhile N (run N (initial_state N) es) s hops port ends
ready-answerable N es s hops port ends n range place all ready = answerable-at N (run N (initial_state N) es) s hops port ends n (reached N es n range) place all ready.busy ready.attempts ready.way ready.room

pub answerable-after : (N : Network) (es own : List Event) (s : ℕ) (hops : List Hop) (port ends : ℕ)
    → IsNetwork N → AllByRecursion IsInRange es → s < N.sessions → LinksHaveAtMost N ends
    → AllByRecursion IsInRange own → IsReady N (run N (run N (initial_state N) es) own) s hops port ends
    → IsAnswerableMeanwhile N (run N (initial_state N) (es ++ own)) s hops port ends
answerable-after N es own s hops port ends n range place all more ready =
    ready-answerable N (es ++ own) s hops port ends n (all_append IsInRange es own range more) place all
    (subst (λ (u : NetworkState). IsReady N u s hops port ends) (sym (run-append N (initial_state N) es own)) ready)

-- ---- a network that runs

-- it runs to the report after events of the session's own, if these are taken and no delivery
pub runs-after : (N : Network) (past own : List Event) (r : RunningNetwork) (s : ℕ) (hops : List Hop) (port ends : ℕ)
    → StandsAfter N past r → s < N.sessions → LinksHaveAtMost N ends
    → AllByRecursion IsInRange own → AreInTime N (run N (initial_state N) past) own
    → taken N (run N (initial_state N) past) own ≡ own
    → IsReady N (run N (run N (initial_state N) past) own) s hops port ends
    → RunsToReport N (network_run N r own) s hops port
runs-after N past own r s hops port ends at place all range time whole ready =
    let there : StandsAfter N (past ++ own) (network_run N r own) =
    subst (λ (es : List Event). StandsAfter N (past ++ es) (network_run N r own)) whole
    (stands-network_run N past r own at range (subst (AreInTime N (run N (initial_state N) past)) (sym whole) time)) in
    let here : IsReady N (run N (initial_state N) (past ++ own)) s hops port ends = grind (arith, run-append) in grind (arith, answered-after)
