-- A network that never crashes, in which sessions give up and hosts observe too, compared with one that crashes: what comes in is in
-- time there too, a session that takes its answer is as there, and what it reports is what was kept there.
use Rattle.ptpm_network.proofs.Common.{by_test, arith, ◌≡◌, ℕ, ◌+◌, ◌<◌, ◌≤◌, ◌&&◌, Bool, true, false, List, Some, refl, sym, ◌∙◌, ap, subst, ltb-true, ltb-false, cond-true, true≢false, SessionValue, Report, received_of, Event, Begin, Send, Resume, Retune, Deliver, Replay, Stranger, frame_at, is_late_delivery, is_late_frame, run, initial_state, HasEnd, Network, Held, RunningNetwork, held, StandsAfter, Stands, Frame, Neither, Origin, ReplyTo, RequestOf, is_late, is_late_at, NetworkState, issued, IsOfOrigin, IsReached, and_parts, reading, number_of, nat_lt, if◌then◌else◌, [], ◌∷◌, ◌++◌, length, Option, None, all_append, AllByRecursion, Contains, Accepted, kept_reply, State, Message, with_place, IsNetwork, manager, Happened, Ok, network_event, with_session_value, frame_at-all, at_place, at_places}
use Rattle.ptpm_network.proofs.Held.{frame_at-map}
use Rattle.ptpm_network.proofs.Promise.{first_of_sessions, firsts}
use Rattle.ptpm_network.proofs.Reaching.{frame_at-is, reached}
use Rattle.ptpm_network.proofs.Frames.{heard-frame, same_read, says_reply, reply_says, heard-true}
use Rattle.ptpm_network.proofs.Receiving.{Takes, takes-by, takes-last, takes-own}
use Rattle.ptpm_manager.specs.declared.setup.Setup.{Setup}
use Rattle.ptpm_restarts.specs.AsIfNever.{is_late_in, IsTimely}
use Rattle.ptpm_restarts.specs.Restarting.{RestartingNetwork, SessionLog, log_of, log_with, sent_or_waiting}
use Rattle.ptpm_restarts.specs.Storage.{Stored, changed, noted}
use Rattle.ptpm_restarts.proofs.Beside.{IsBeside, IsSettled, settled-live, log-stays, changed-act, noted-act, not_both}
use Rattle.ptpm_restarts.proofs.Shapes.{IsSound, AreSound, ByShape, by-shape}
use Rattle.ptpm_restarts.proofs.Steps.{Facts, is_delivery, some-of, Goes, Stay, Stays, Step, among, log-other, logged, numbered}
use Rattle.ptpm_data.specs.ObservationBack.{Observation}
use Rattle.ptpm_data.specs.ObservationLaws.{IsSizedObservation}
use Rattle.ptpm_agent.specs.Observing.{moved_state}
use Rattle.ptpm_manager.specs.declared.error.GiveUpRefusal.{GiveUpRefusal}
use Rattle.ptpm_manager.specs.Session.{give_up_refusal, given_up}
use Rattle.ptpm_network.specs.ByManager.{Account, is_behind, is_for, is_late_for, is_late_frame_for}
use Rattle.ptpm_network.specs.GivingUp.{Act, AreRising, IsKeptReport, account_after, after_event, after_give_up, after_observation, is_late_act, network_act}
use Rattle.ptpm_network.specs.State.{reports_of}
use Rattle.ptpm_network.proofs.Accepting.{kept-le}
use Rattle.ptpm_network.proofs.AtWork.{told-kept}
use Rattle.ptpm_network.proofs.GivingUp.{Works, kept-act}
use Rattle.ptpm_network.proofs.Honest.{IsHonest, frame-true}
use Rattle.ptpm_network.proofs.Owned.{IsOwnFrame, IsSaid, told_of}
use Rattle.ptpm_restarts.specs.ActsAsIfNever.{IsSameAct}
use Rattle.ptpm_restarts.specs.Incidents.{GivesUp, Happens, Incident, Observes, incident, lets_go}
use Rattle.ptpm_restarts.proofs.Sent.{all_contains}
use Rattle.ptpm_manager.specs.declared.receiving.Received.TheVariants as received
use Rattle.ptpm_network.specs.GivingUp as acts

-- ---- a network that never crashes, at a state of the machine, compared with one that does: what comes in is in time there too, and a session
-- that takes its answer is as there.

-- ---- in time

pub settled-issued : (lost : Bool) (x : Stored SessionLog) (a : SessionLog)
    → IsSettled lost x a → x.stored.session.issued ≤ x.live.session.issued
    → a.session.issued ≤ x.live.session.issued
settled-issued true x a h le = grind arith
settled-issued false x a h le = grind arith

pub late-fewer : (j few many : ℕ) → few ≤ many → is_late_at j many ≡ false → is_late_at j few ≡ false
late-fewer j few many le n = grind (arith, ltb-true, ltb-false)

-- A session that begins a request does not send it before it saves. So while that is unsaved no reply to it comes: each reply is to a
-- request that was begun when the session was saved last.
pub unsent-unanswered : (N : Network) (k : RestartingNetwork) (s j sent : ℕ) (x : Held) (report : Report)
    → IsSound (N.session s).setup (k.told s) (k.session s) → (takes : Takes (k.session s).live.session x.octets report)
    → x.origin ≡ ReplyTo s j → is_late_in k x.origin ≡ false
    → takes.message.number ≡ number_of (N.session s).setup.first j → 0 < j → j ≤ sent → sent ≡ (k.session s).stored.session.issued
    → (k.session s).is_unsaved ≡ true
    → ⊥
unsent-unanswered N k s j sent x report sound takes of timely number positive within stored unsaved =
    let live : SessionValue = (k.session s).live.session in
    let time : live.issued ≤ j + 32768 = ltb-false (j + 32768) live.issued (subst (λ (q : Origin). is_late_in k q ≡ false) of timely) in
    let behind = sound.behind unsaved takes.accepted.waiting in
    let last : j ≡ live.issued = takes-last (N.session s).setup.first j live x.octets report takes
    (ap (λ (p : Setup). p.first) sound.live) number positive (omega (arith, within, stored, behind)) time in
    omega (arith, last, within, stored, behind)

-- the frame that the machine has in this place
record IsFrameOf (w : NetworkState) (m : ℕ) (x : Held) : Type 0 where
  pub frame : Frame
  pub at : frame_at w.frames m ≡ Some frame
  pub is : held frame ≡ x

module _ (lc ls : ℕ → Bool) (N : Network) (past : List Event) (k : RestartingNetwork) (r : RunningNetwork) (h : IsBeside lc ls k r) (order : (s : ℕ) → IsSound (N.session s).setup (k.told s) (k.session s)) (at : StandsAfter N past r) where
  abbrev state : NetworkState
  state = run N (initial_state N) past

  there : Stands N (first_of_sessions N N.sessions) r state
  there = at.stands (first_of_sessions N N.sessions) (firsts N at.promised.network)

  known : IsReached N state
  known = reached N past at.promised.network at.promised.in_range

  -- ---- frames that come in

  frame-of : (m : ℕ) (x : Held) → frame_at r.frames m ≡ Some x → IsFrameOf state m x
  frame-of m x is =
      let f = some-of (frame_at state.frames m) x (sym (frame_at-map state.frames m) ∙ ap (λ (fs : List Held). frame_at fs m) (sym there.frames) ∙ is) in
      record { frame = f.0; at = f.1; is = f.2 }

  origin-of : (m : ℕ) (x : Held) → frame_at r.frames m ≡ Some x → IsOfOrigin N state x.octets x.origin
  origin-of m x is =
      let f = frame-of m x is in
      subst (λ (y : Held). IsOfOrigin N state y.octets y.origin) f.is (frame_at-is N state m f.frame known f.at).origin

  pub end-of : (m : ℕ) (x : Held) → frame_at r.frames m ≡ Some x → HasEnd N x.end
  end-of m x is =
      let f = frame-of m x is in
      subst (λ (y : Held). HasEnd N y.end) f.is (frame_at-is N state m f.frame known f.at).end

  begun-there : (s : ℕ) → s < N.sessions → issued state s ≡ (r.session s).issued
  begun-there s place = sym (ap (λ (v : SessionValue). v.issued) (there.sessions s place))

  origin-timely : (octets : List ℕ) (q : Origin) → IsOfOrigin N state octets q → is_late_in k q ≡ false → is_late state q ≡ false
  origin-timely octets (RequestOf s j) (place, says) timely =
      late-fewer j (issued state s) (k.session s).live.session.issued
      (omega (arith, begun-there s place, settled-issued (ls s) (k.session s) (log_of r s) (h.sessions s) (order s).issued)) timely
  origin-timely octets (ReplyTo s j) (place, says) timely =
      late-fewer j (issued state s) (k.session s).live.session.issued
      (omega (arith, begun-there s place, settled-issued (ls s) (k.session s) (log_of r s) (h.sessions s) (order s).issued)) timely
  origin-timely octets Neither says timely = refl

  pub in_time-there : (m : ℕ) (x : Held)
      → frame_at r.frames m ≡ Some x → is_late_in k x.origin ≡ false
      → is_late_delivery state (Deliver m) ≡ false
  in_time-there m x is timely =
      let f = frame-of m x is in
      ap (is_late_frame state) f.at
      ∙ origin-timely f.frame.octets f.frame.origin (frame_at-is N state m f.frame known f.at).origin
      (subst (λ (y : Held). is_late_in k y.origin ≡ false) (sym f.is) timely)

  -- ---- an answer

  unheard-here : (s m : ℕ) (x : Held) (report : Report)
      → s < N.sessions → frame_at r.frames m ≡ Some x → is_late_in k x.origin ≡ false
      → ls s ≡ true → (k.session s).is_unsaved ≡ true
      → received_of (k.session s).live.session x.octets ≡ received.Answered report
      → ⊥
  unheard-here s m x report place is timely lost unsaved hears' =
      let n = at.promised.network in
      let live : SessionValue = (k.session s).live.session in
      let takes = takes-by live x.octets report (reading x.octets) refl hears' in
      let origin = origin-of m x is in
      let own = takes-own N s live x.octets x.origin report n place (order s).live takes
      (heard-true N state x.octets x.origin n known (heard-frame N state x.octets x.origin origin) takes.message takes.read).1 in
      let says = says_reply N state s own.0 x.octets n known (subst (IsOfOrigin N state x.octets) own.1 origin) in
      let number : takes.message.number ≡ number_of (N.session s).setup.first own.0 = grind (arith, same_read) in
      let stored : issued state s ≡ (k.session s).stored.session.issued =
      begun-there s place ∙ ap (λ (l : SessionLog). l.session.issued) ((h.sessions s).at ∙ cond-true _ _ _ lost) in
      unsent-unanswered N k s own.0 (issued state s) x report (order s) takes own.1 timely number says.positive says.says.within stored unsaved

  -- so a session that takes its answer is as there
  pub heard-live : (s m : ℕ) (x : Held) (report : Report)
      → s < N.sessions → frame_at r.frames m ≡ Some x → is_late_in k x.origin ≡ false
      → received_of (k.session s).live.session x.octets ≡ received.Answered report
      → log_of r s ≡ (k.session s).live
  heard-live s m x report place is timely hears' = by_test (ls s && (k.session s).is_unsaved)
      (λ y. let both = and_parts (ls s) (k.session s).is_unsaved y in absurd (unheard-here s m x report place is timely both.0 both.1 hears'))
      (λ n. settled-live (ls s) (k.session s) (log_of r s) (h.sessions s) n)

  -- ---- all of it

  others-in_time : (e : Event) → is_delivery e ≡ false → is_late_delivery state e ≡ false
  others-in_time (Deliver n) e = absurd (true≢false e)
  others-in_time (Begin s a) e = refl
  others-in_time (Send s) e = refl
  others-in_time (Resume s attempts) e = refl
  others-in_time (Retune s domain) e = refl
  others-in_time (Replay n end) e = refl
  others-in_time (Stranger c port datagram) e = refl

  pub standing : Facts N (λ e. is_late_delivery state e ≡ false) k r
  standing = record { others = others-in_time; ends = end-of; comes_in = in_time-there; heard = heard-live }

-- ---- what is kept stays kept

some-reported : (k : ℕ) (o : Option Accepted) (report : Report) → reports_of k o ≡ report ∷ [] → (e : Accepted) × (o ≡ Some e)
some-reported k None report is = absurd (cc)
some-reported k (Some e) report is = (e, refl)

pub kept-later : (N : Network) (s : ℕ) (r : RunningNetwork) (a : Account) (x : Act) (report : Report)
    → AreRising (manager N s) (account_after N s r x a).accepted → IsKeptReport (manager N s) a.accepted report
    → IsKeptReport (manager N s) (account_after N s r x a).accepted report
kept-later N s r a x report rising is =
    let k = report.index in
    let entry = some-reported k (kept_reply (manager N s) k a.accepted) report is in
    ap (λ (o : Option Accepted). reports_of k o) (kept-act N s k r a x rising (kept-le (manager N s) k a.accepted entry.0 entry.1)).same ∙ is

-- ---- no message of any session comes late

abbrev pub InTimeForAll : Network → RunningNetwork → Event → Type 0
InTimeForAll N r e = (s : ℕ) → s < N.sessions → is_late_for N s r e ≡ false

abbrev pub AreKept : Network → (ℕ → Account) → RestartingNetwork → Type 0
AreKept N a k = (s : ℕ) → s < N.sessions → AllByRecursion (IsKeptReport (manager N s) (a s).accepted) (k.told s)

module _ (lc ls : ℕ → Bool) (N : Network) (a : ℕ → Account) (k : RestartingNetwork) (r : RunningNetwork) (h : IsBeside lc ls k r) (order : AreSound N k) (n : IsNetwork N) (honest : IsHonest N r) (works : (s : ℕ) → s < N.sessions → Works N s r (a s)) where
  begun-fewer : (s : ℕ) → (r.session s).issued ≤ (k.session s).live.session.issued
  begun-fewer s = settled-issued (ls s) (k.session s) (log_of r s) (h.sessions s) (order s).issued

  behind-timely : (q : Origin) → is_late_in k q ≡ false → is_behind r q ≡ false
  behind-timely (RequestOf s j) timely = late-fewer j (r.session s).issued (k.session s).live.session.issued (begun-fewer s) timely
  behind-timely (ReplyTo s j) timely = late-fewer j (r.session s).issued (k.session s).live.session.issued (begun-fewer s) timely
  behind-timely Neither timely = refl

  ends-there : (m : ℕ) (x : Held) → frame_at r.frames m ≡ Some x → HasEnd N x.end
  ends-there m x is = (frame-true N n r honest m x is).end

  timely-there : (m : ℕ) (x : Held) → frame_at r.frames m ≡ Some x → is_late_in k x.origin ≡ false → InTimeForAll N r (Deliver m)
  timely-there m x is timely = λ s place.
      ap (λ (o : Option Held). is_late_frame_for N s r o) is ∙ not_both (is_for N s x.end x.origin) (is_behind r x.origin) (behind-timely x.origin timely)

  others-timely : (e : Event) → is_delivery e ≡ false → InTimeForAll N r e
  others-timely (Deliver m) e = absurd (true≢false e)
  others-timely (Begin s q) e = λ t place. refl
  others-timely (Send s) e = λ t place. refl
  others-timely (Resume s attempts) e = λ t place. refl
  others-timely (Retune s domain) e = λ t place. refl
  others-timely (Replay m end) e = λ t place. refl
  others-timely (Stranger c port datagram) e = λ t place. refl

  unheard : (s m : ℕ) (x : Held) (report : Report)
      → s < N.sessions → frame_at r.frames m ≡ Some x → is_late_in k x.origin ≡ false
      → ls s ≡ true → (k.session s).is_unsaved ≡ true
      → received_of (k.session s).live.session x.octets ≡ received.Answered report
      → ⊥
  unheard s m x report place is timely lost unsaved hears' =
      let live : SessionValue = (k.session s).live.session in
      let takes = takes-by live x.octets report (reading x.octets) refl hears' in
      let work = (works s place).work in
      let own = takes-own N s live x.octets x.origin report n place (order s).live takes ((frame-true N n r honest m x is).says takes.message takes.read).1 in
      let said : IsSaid N s (a s) x.octets x.origin = frame_at-all (IsOwnFrame N s (a s)) r.frames m x work.held.frames_say is in
      let says = reply_says N s own.0 (a s).accepted (a s).begun n place work.held.keeps x.octets (subst (IsSaid N s (a s) x.octets) own.1 said refl) in
      let same = same_read x.octets takes.message _ says.message takes.read in
      let number : takes.message.number ≡ number_of (N.session s).setup.first own.0 = ap (λ (u : Message). u.number) same ∙ says.number in
      let stored : length (a s).begun ≡ (k.session s).stored.session.issued =
      sym work.issued ∙ ap (λ (l : SessionLog). l.session.issued) ((h.sessions s).at ∙ cond-true _ _ _ lost) in
      unsent-unanswered N k s own.0 (length (a s).begun) x report (order s) takes own.1 timely number says.positive says.says.within stored unsaved

  heard-there : (s m : ℕ) (x : Held) (report : Report)
      → s < N.sessions → frame_at r.frames m ≡ Some x → is_late_in k x.origin ≡ false
      → received_of (k.session s).live.session x.octets ≡ received.Answered report
      → log_of r s ≡ (k.session s).live
  heard-there s m x report place is timely hears' = by_test (ls s && (k.session s).is_unsaved)
      (λ y. let both = and_parts (ls s) (k.session s).is_unsaved y in absurd (unheard s m x report place is timely both.0 both.1 hears'))
      (λ n. settled-live (ls s) (k.session s) (log_of r s) (h.sessions s) n)

  pub acting : Facts N (InTimeForAll N r) k r
  acting = record { others = others-timely; ends = ends-there; comes_in = timely-there; heard = heard-there }

  -- ---- what is reported is kept

  kept-hears : (m s : ℕ) (x : Held) (report : Report)
      → frame_at r.frames m ≡ Some x → is_late_in k x.origin ≡ false
      → received_of (k.session s).live.session x.octets ≡ received.Answered report → s < N.sessions
      → IsKeptReport (manager N s) (a s).accepted report
  kept-hears m s x report is timely e place =
      let live : SessionValue = (k.session s).live.session in
      let takes = takes-by live x.octets report (reading x.octets) refl e in
      let work = (works s place).work in
      let same : (r.session s).issued ≡ live.issued = ap (λ (l : SessionLog). l.session.issued) (heard-there s m x report place is timely e) in
      let said : IsSaid N s (a s) x.octets x.origin = frame_at-all (IsOwnFrame N s (a s)) r.frames m x work.held.frames_say is in
      told-kept (manager N s) (length (a s).begun) (a s).accepted report
      (told_of N s live (a s) x.octets x.origin report n place takes ((frame-true N n r honest m x is).says takes.message takes.read).1 said
      (λ j o. omega (arith, ltb-false (j + 32768) live.issued (subst (λ (q : Origin). is_late_in k q ≡ false) o timely), same, work.issued))
      (order s).live (sym same ∙ work.issued) work.held.keeps)

  kept-turns : AreKept N a k → (c : ℕ) (x : Stored State) (made : List Held) (b : Bool)
      → AreKept N a (sent_or_waiting b (record k { clock = with_place k.clock c x }) c made)
  kept-turns kept c x made true = kept
  kept-turns kept c x made false = kept

  kept-shapes : AreKept N a k → ByShape N k (AreKept N a)
  kept-shapes kept = record {
    same = kept;
    turns = kept-turns kept;
    begins = λ s q. kept;
    notes = λ s v x y z. kept;
    sends = λ s. kept;
    replays = λ m end x is. kept;
    hears = λ m s x report is end timely room e t.
        let there = numbered r.frames x (all_contains (Contains r.frames) k.frames x h.frames.sent (among k.frames m x is)) in
        at_place (λ i (told : List Report). i < N.sessions → AllByRecursion (IsKeptReport (manager N i) (a i).accepted) told) k.told s (k.told s ++ report ∷ []) t
        (λ place. all_append (IsKeptReport (manager N s) (a s).accepted) (k.told s) (report ∷ []) (kept s place) (kept-hears there.0 s x report there.1 timely e place, tt)) (kept t);
  }

  pub kept-event : (e : Event) → IsTimely N k (Happens e) → AreKept N a k → AreKept N a (incident N k (Happens e))
  kept-event e timely kept = by-shape N k (AreKept N a) (kept-shapes kept) e timely

-- ---- one incident

-- What the other does while this one becomes another by an incident: nothing, or this act.
pub data ActStep (N : Network) (r : RunningNetwork) (here : List Held) (lc ls : ℕ → Bool) (i : Incident) (k : RestartingNetwork) : Type 0 where
  Remains : IsBeside lc ls k r → ActStep N r here lc ls i k
  Moves : (x : Act) (next : RunningNetwork) → network_act N r x ≡ Some next → acts.IsPossible x
      → ((s : ℕ) → s < N.sessions → is_late_act N s r x ≡ false) → IsSameAct here r.frames i x → Stay r.frames next.frames → IsBeside lc ls k next
      → ActStep N r here lc ls i k

happens-there : (N : Network) (r : RunningNetwork) (f : Event) (h : Happened) → network_event N r f ≡ Ok h → network_act N r (acts.Happens f) ≡ Some h.network
unfolding network_act
happens-there N r f h ok = ap after_event ok

pub event-act : (N : Network) (r : RunningNetwork) (here : List Held) (lc ls : ℕ → Bool) (e : Event) (k : RestartingNetwork)
    → Step N (InTimeForAll N r) r here lc ls e k
    → ActStep N r here lc ls (Happens e) k
event-act N r here lc ls e k (Stays h) = Remains h
event-act N r here lc ls e k (Goes f h ok range fine same stay goes) = Moves (acts.Happens f) h.network (happens-there N r f h ok) range fine same stay goes

module _ (lc ls : ℕ → Bool) (N : Network) (a : ℕ → Account) (k : RestartingNetwork) (r : RunningNetwork) (h : IsBeside lc ls k r) (facts : Facts N (InTimeForAll N r) k r) where
  gives-there : (s : ℕ) → nat_lt s N.sessions ≡ true → give_up_refusal (r.session s) ≡ None
      → network_act N r (acts.GivesUp s) ≡ Some (with_session_value r s (given_up (r.session s)))
  unfolding network_act
  gives-there s y fine = cond-true (nat_lt s N.sessions) (after_give_up r s (give_up_refusal (r.session s))) None y ∙ ap (after_give_up r s) fine

  let-go : (s : ℕ) (o : Option GiveUpRefusal) → nat_lt s N.sessions ≡ true → give_up_refusal (k.session s).live.session ≡ o
      → ActStep N r k.frames lc ls (GivesUp s) (lets_go o k s)
  let-go s (Some reason) y is = Remains h
  let-go s None y is =
      let v : SessionValue = given_up (k.session s).live.session in
      let x : Stored SessionLog = changed (k.session s) (log_with k s v) in
      let act = changed-act (ls s) (k.session s) (log_of r s) (log_with k s v) (h.sessions s) in
      by_test (ls s && true)
      (λ lost. Remains (log-stays lc ls k r s x h (act.stays lost)))
      (λ stays. let goes = act.goes stays in
      let same : r.session s ≡ (k.session s).live.session = ap (λ (l : SessionLog). l.session) goes.0 in
      Moves (acts.GivesUp s) (with_session_value r s v)
      (gives-there s y (ap give_up_refusal same ∙ is) ∙ ap (λ (z : SessionValue). Some (with_session_value r s (given_up z))) same)
      tt (λ t place. refl) refl (λ i w at. at)
      (logged lc ls N (InTimeForAll N r) k r h facts s x (log_with k s v) k.frames r.frames k.told (with_place r.session s v) r.reports goes.1
      (λ t. log-other lc ls N (InTimeForAll N r) k r h facts s v t goes.0) h.frames))

  pub gives-up-step : (s : ℕ) (b : Bool) → nat_lt s N.sessions ≡ b
      → ActStep N r k.frames lc ls (GivesUp s) (if b then lets_go (give_up_refusal (k.session s).live.session) k s else k)
  gives-up-step s true y = let-go s (give_up_refusal (k.session s).live.session) y refl
  gives-up-step s false y = Remains h

  observes-there : (c : ℕ) (o : Observation) → nat_lt c N.clocks ≡ true → network_act N r (acts.Observes c o) ≡ Some (after_observation r c o)
  unfolding network_act
  observes-there c o y = cond-true (nat_lt c N.clocks) (Some (after_observation r c o)) None y

  pub observes-step : (c : ℕ) (o : Observation) (b : Bool) → nat_lt c N.clocks ≡ b → IsSizedObservation o.clock
      → ActStep N r k.frames lc ls (Observes c o)
      (if b then record k { clock = with_place k.clock c (noted (k.clock c) (moved_state o.clock o.ports (k.clock c).live)) } else k)
  observes-step c o false y fits = Remains h
  observes-step c o true y fits =
      let moved : State = moved_state o.clock o.ports (k.clock c).live in
      let x : Stored State = noted (k.clock c) moved in
      let act = noted-act (lc c) (k.clock c) (r.clock c) moved (h.clocks c) in
      by_test (lc c && x.is_unsaved)
      (λ lost. Remains (record {
        clocks = λ d. at_place (λ i z. IsSettled (lc i) z (r.clock i)) k.clock c x d (act.stays lost) (h.clocks d);
        sessions = h.sessions;
        frames = h.frames;
      }))
      (λ stays. let goes = act.goes stays in
      Moves (acts.Observes c o) (record r { clock = with_place r.clock c moved })
      (observes-there c o y ∙ ap (λ (z : State). Some (record r { clock = with_place r.clock c (moved_state o.clock o.ports z) })) goes.0)
      fits (λ t place. refl) refl (λ i w at. at)
      (record {
        clocks = λ d. at_places (λ i z w. IsSettled (lc i) z w) k.clock r.clock c x moved d goes.1 (h.clocks d);
        sessions = h.sessions;
        frames = h.frames;
      }))
