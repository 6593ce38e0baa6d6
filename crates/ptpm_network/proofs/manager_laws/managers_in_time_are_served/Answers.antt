-- If no delivery of a list of events is late, none is late for any session.
use Rattle.ptpm_network.proofs.Common.{arith, ◌≡◌, ℕ, List, [], ◌∷◌, Option, Some, None, Result, Ok, Err, false, refl, ◌∙◌, ap, and_right, is_none, if◌then◌else◌, option_map, AllByRecursion, PortIdentity, SessionValue, IsOfOrigin, IsReached, AreInTime, happens, is_late_delivery, is_late_frame, step, taken, IsNetwork, Network, Frame, held, Happened, network_event, RunningNetwork, Refusal, refusal, Event, IsInRange, frame_at, AreFirsts, Stands, NetworkState, Origin, RequestOf, ReplyTo, Neither, is_late, is_late_at, initial_state, network_run, initial_network}
use Rattle.ptpm_network.specs.ByManager.{StaysInTime, in_time_while, is_behind, is_for, is_late_for, is_late_frame_for, account_of}
use Rattle.ptpm_network.proofs.Held.{frame_at-map}
use Rattle.ptpm_network.proofs.Promise.{firsts, stands-first, first_of_sessions}
use Rattle.ptpm_network.proofs.Reaching.{frame_at-is, step-reached, first-reached}
use Rattle.ptpm_network.proofs.Running.{Follows, follows}
use Rattle.ptpm_network.specs.Served.{AtStart}
use Rattle.ptpm_network.proofs.Standing.{stands-initial_state}
use Rattle.ptpm_network.proofs.Served.{account-run, served_by}
use Rattle.ptpm_network.proofs.manager_laws.managers_in_time_are_served.Goals as goal

module _ (N : Network) (n : IsNetwork N) (first : ℕ → PortIdentity → ℕ) (r : RunningNetwork) (w : NetworkState) (known : IsReached N w) (at : Stands N first r w) (s : ℕ) where
  not_behind : (octets : List ℕ) (o : Origin) → IsOfOrigin N w octets o → is_late w o ≡ false → is_behind r o ≡ false
  not_behind octets (RequestOf t k) (there, i) late = ap (λ (v : SessionValue). is_late_at k v.issued) (at.sessions t there) ∙ late
  not_behind octets (ReplyTo t k) (there, i) late = ap (λ (v : SessionValue). is_late_at k v.issued) (at.sessions t there) ∙ late
  not_behind octets Neither i late = refl

  frame-for : (k : ℕ) (o : Option Frame) → frame_at w.frames k ≡ o → is_late_frame w o ≡ false
      → is_late_frame_for N s r (option_map held o) ≡ false
  frame-for k None e late = refl
  frame-for k (Some f) e late =
      and_right (is_for N s f.end f.origin) (is_behind r f.origin) (not_behind f.octets f.origin (frame_at-is N w k f known e).origin late)

  while-in_time : (e : Event) (es : List Event) (x : Result Happened Refusal) (o : Option Refusal)
      → Follows x o (λ y. is_late_delivery w e ≡ false → Stands N first y (happens N w e))
      → refusal N w e ≡ o
      → AreInTime N w (if is_none o then e ∷ taken N (step N w e) es else [])
      → ((next : RunningNetwork) → Stands N first next (step N w e) → AreInTime N (step N w e) (taken N (step N w e) es) → StaysInTime N s next es)
      → in_time_while x (is_late_for N s r e) (λ next. StaysInTime N s next es)
  while-in_time e es (Err reason) o f is time behind = tt
  while-in_time e es (Ok h) (Some reason) f is time behind = let never : None ≡ Some reason = f.reason in absurd (cc)
  while-in_time e es (Ok h) None f none time behind = grind (arith, frame_at-map, frame-for)

all-in_time : (N : Network) (first : ℕ → PortIdentity → ℕ) (r : RunningNetwork) (w : NetworkState) (s : ℕ) (es : List Event)
    → AreFirsts N first → IsNetwork N → IsReached N w → Stands N first r w
    → AllByRecursion IsInRange es → AreInTime N w (taken N w es)
    → StaysInTime N s r es
all-in_time N first r w s [] firsts n known at i time = tt
all-in_time N first r w s (e ∷ es) firsts n known at i time =
    let f = follows N first r w n known at e in
    while-in_time N n first r w known at s e es (network_event N r e) (refusal N w e)
    (record { reason = f.reason; next = λ h is late. f.next h is firsts i.0 late }) refl time
    (λ next there timely. all-in_time N first next (step N w e) s es firsts n (step-reached N w e n i.0 known) there i.1 timely)

pub returns-clause-served : goal.returns-clause-served
returns-clause-served c = λ N s es n place i time.
    (served_by N s (network_run N (initial_network N) es) (account_of N s es)
    (account-run N s (initial_network N) (account_of N s []) es (AtStart (initial_network N) place (stands-first N n)) i time)).served

pub returns-clause-all : goal.returns-clause-all
returns-clause-all c = λ N s es n i time.
    all-in_time N (first_of_sessions N N.sessions) (initial_network N) (initial_state N) s es (firsts N n) n (first-reached N n)
    (stands-initial_state N (first_of_sessions N N.sessions)) i time
