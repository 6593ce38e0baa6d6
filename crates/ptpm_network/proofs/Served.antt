-- A session whose own messages come in time is served, after every list of events, whatever comes late of others.
use Rattle.ptpm_network.proofs.Common.{◌≡◌, ℕ, ◌<◌, ◌^◌, refl, List, [], Option, Some, None, option_map, Message, Fits, IsForeign, message_of, Ask, begin_refusal, begun, resumed, retuned, send_refusal, with_session_value, sends_in, reaches, delivers, after_turn, strange_frame, network_event, nothing_to_resume, AtPort, HasEnd, Network, Held, RunningNetwork, Event, Begin, Replay, replays, no_end, End, ◌++◌, ◌∷◌, Send, Resume, Retune, Deliver, Stranger, BeginRefused, SendRefused, Forged, IsInRange, is_forged, forged, frame_at, first_of-none, no_port, no_room, no_session, expected_ports, arith, by_test, ◌+◌, ◌≤◌, ◌==◌, ◌&&◌, Bool, reading, length, Result, Ok, Err, true, false, sym, ap, subst, and_cases, and_from, eq-eqb, eqb-true, ltb-false, true≢false, all_append, frame_at-all, AllByRecursion, canonical, is_copy, received_of, IsAsked, with_place, AtSession, IsNetwork, manager, ports, seen, Origin, SessionValue, Happened, network_run, goes_on, hears, sent, due_message, Refusal, is_late_at, PortIdentity, DataSetsValue, Entry, initial_history, StandsAfter, session_value, Clock, greatest, Frame, State, RequestOf, Verdict, DecodeError, Accepted, judged, if◌then◌else◌}
use Rattle.ptpm_network.proofs.Honest.{Then, then_ok, then_unless, replayed-honest, IsHonest, IsSentBy, IsTrueFrame, begins-honest, first-honest, frame-true, moved-honest, nothing_kept, reaches-honest, sends-honest, sent-all, sent_by, session-honest, turns-honest}
use Rattle.ptpm_network.proofs.Reaching.{end-exists, port-exists, session-exists, first-reached}
use Rattle.ptpm_network.proofs.Refusals.{option_map-none, strange-message, begin-not_refused}
use Rattle.ptpm_agent.specs.CarriedOut.{carried_by, carried_in, carried_of}
use Rattle.ptpm_agent.specs.Laws.{IsKept}
use Rattle.ptpm_manager.specs.Receiving.{left_by}
use Rattle.ptpm_manager.specs.declared.receiving.Received.{Received}
use Rattle.ptpm_network.specs.ByManager.{Account, StaysInTime, account_from, account_of, account_while, account_with, in_time_while, is_behind, is_for, is_late_for, is_late_frame_for, with_begun, with_carried}
use Rattle.ptpm_network.specs.CarriedOut.{carried_at, carried_by_event, carried_of_frame}
use Rattle.ptpm_network.specs.Served.{After, AtStart, HasAccount, IsServed, IsServedSoFar, IsTimelyCopy}
use Rattle.ptpm_network.specs.State.{initial_session_state}
use Rattle.ptpm_network.specs.GivingUp.{carried_as}
use Rattle.ptpm_network.proofs.Accepting.{in_order, in_step-window}
use Rattle.ptpm_network.proofs.Arriving.{step-gained}
use Rattle.ptpm_network.specs.Invariant.{IsRequestFrame}
use Rattle.ptpm_network.proofs.Frames.{IsTrue}
use Rattle.ptpm_network.proofs.Owned.{IsLastOf, TurnsOwn, turns_own, IsOwn, IsOwnFrame, IsSaid, own-begun, own-hears, own-held, own-message, own-resumed, own-retuned, own-sent, reports_with, state_of}
use Rattle.ptpm_network.proofs.Promise.{first_of_sessions, firsts}
use Rattle.ptpm_network.proofs.Serving.{IsGiven, comes_own, held-turned, with_accepted}
use Rattle.ptpm_network.proofs.Lists.{flipped}
use Rattle.ptpm_manager.specs.Ask as ask
use Rattle.ptpm_agent.specs.declared.verdict.Verdict.TheVariants as verdicts
use Rattle.ptpm_manager.specs.declared.receiving.Received.TheVariants as received

-- ---- what holds after any event that is not refused, if it holds after each that may happen

-- what it takes: Q of each event and the network to which it leads
pub record HoldsAfterEach (N : Network) (r : RunningNetwork) (Q : Event → RunningNetwork → Type 0) : Type 0 where
  pub begins : (t : ℕ) (a : Ask) → t < N.sessions → a.id < 2 ^ 16 → begin_refusal (r.session t) a ≡ None
      → Q (Begin t a) (with_session_value r t (begun (r.session t) (ask.request_of a)))
  pub sends : (t : ℕ) → t < N.sessions → Q (Send t) (sends_in N r t)
  pub resumes : (t attempts : ℕ) → t < N.sessions
      → Q (Resume t attempts) (with_session_value r t (resumed (r.session t) attempts))
  pub retunes : (t domain : ℕ) → t < N.sessions
      → Q (Retune t domain) (with_session_value r t (retuned (r.session t) domain))
  pub delivers : (k : ℕ) (x : Held) → frame_at r.frames k ≡ Some x → Q (Deliver k) (reaches N r x x.end).network
  pub replays : (k : ℕ) (end : End) (x : Held) → frame_at r.frames k ≡ Some x → HasEnd N end
      → Q (Replay k end) (record r { frames = r.frames ++ record x { end = end } ∷ [] })
  pub intrudes : (c port : ℕ) (datagram : List ℕ) → HasEnd N (AtPort c port)
      → ((v : Message) → message_of datagram ≡ Some v → Fits v × IsForeign N v)
      → Q (Stranger c port datagram) (after_turn N r c port (strange_frame c port datagram))

module _ (N : Network) (r : RunningNetwork) (Q : Event → RunningNetwork → Type 0) (each : HoldsAfterEach N r Q) where
  after-delivery : (k : ℕ) (o : Option Held) → frame_at r.frames k ≡ o → Then (delivers N r o) (λ g. Q (Deliver k) g.network)
  after-delivery k None e = λ g is. absurd (cc)
  after-delivery k (Some x) e =
      then_unless (λ g. Q (Deliver k) g.network) (no_room r.frames) _
      (λ room. then_ok (λ g. Q (Deliver k) g.network) (reaches N r x x.end) (each.delivers k x e))

  after-replay : (k : ℕ) (end : End) (o : Option Held) → frame_at r.frames k ≡ o
      → Then (replays N r o end) (λ g. Q (Replay k end) g.network)
  after-replay k end None e = λ g is. absurd (cc)
  after-replay k end (Some x) e =
      then_unless (λ g. Q (Replay k end) g.network) (no_end N end) _
      (λ there. then_unless (λ g. Q (Replay k end) g.network) (no_room r.frames) _
      (λ room. then_ok (λ g. Q (Replay k end) g.network) _ (each.replays k end x e (end-exists N end there))))

  pub holds_after : (e : Event) → IsInRange e → Then (network_event N r e) (λ g. Q e g.network)
  unfolding network_event
  holds_after (Begin t a) id =
      then_unless _ (no_session N t) _ (λ there. then_unless _ (option_map BeginRefused (begin_refusal (r.session t) a)) _
      (λ fine. then_ok _ _ (each.begins t a (session-exists N t there) id (option_map-none BeginRefused (begin_refusal (r.session t) a) fine))))
  holds_after (Send t) i =
      then_unless _ (no_session N t) _ (λ there. then_unless _ (no_room r.frames) _ (λ room. then_unless _ (option_map SendRefused (send_refusal (r.session t))) _
      (λ fine. then_ok _ _ (each.sends t (session-exists N t there)))))
  holds_after (Resume t attempts) i =
      then_unless _ (no_session N t) _ (λ there. then_unless _ (nothing_to_resume (r.session t)) _
      (λ fine. then_ok _ _ (each.resumes t attempts (session-exists N t there))))
  holds_after (Retune t domain) i =
      then_unless _ (no_session N t) _ (λ there. then_ok _ _ (each.retunes t domain (session-exists N t there)))
  holds_after (Deliver k) i = after-delivery k (frame_at r.frames k) refl
  holds_after (Replay k end) i = after-replay k end (frame_at r.frames k) refl
  holds_after (Stranger c port datagram) octets =
      then_unless _ (no_port N c port) _ (λ there. then_unless _ (forged N datagram) _ (λ fine. then_unless _ (no_room r.frames) _
      (λ room. then_ok _ _ (each.intrudes c port datagram (port-exists N c port there)
      (λ v e. strange-message N datagram v octets (first_of-none (is_forged N datagram) Forged [] fine).0 e)))))

-- ---- what is in time

module _ (N : Network) (s : ℕ) (r : RunningNetwork) where
  pub timely-for : (o p : Origin) (end : End) (k : ℕ)
      → is_for N s end o && is_behind r o ≡ false → o ≡ p → is_for N s end p ≡ true
      → is_behind r p ≡ is_late_at k (r.session s).issued
      → (r.session s).issued ≤ k + 32768
  timely-for o p end k late e here is = grind (arith, true≢false, ltb-false, and_cases)

-- ---- a clock takes its turn

abbrev pub Own : Network → ℕ → RunningNetwork → Account → Type 0
Own N s r a = IsOwn N s (r.session s) (r.reports s) (r.clock (N.session s).target) r.frames a

-- of what is carried out at one message the account has at most one more
once-by : (m : PortIdentity) (c : Clock) (s : State) (v : Message) (w : Verdict) (es : List Accepted)
    → carried_as (greatest m es + 1) m c s (carried_by w v) es ≡ with_carried m c s (carried_by w v) es
once-by m c s v verdicts.AnsweredNew es = refl
once-by m c s v _ es = refl

once-of : (m : PortIdentity) (c : Clock) (s : State) (x : Result Message DecodeError) (es : List Accepted)
    → carried_as (greatest m es + 1) m c s (carried_of c s x) es ≡ with_carried m c s (carried_of c s x) es
once-of m c s (Ok v) es = once-by m c s v (judged c s v) es
once-of m c s (Err cause) es = refl

once-at : (m : PortIdentity) (c : Clock) (s : State) (here : Bool) (octets : List ℕ) (es : List Accepted)
    → carried_as (greatest m es + 1) m c s (if here then carried_in c s octets else []) es
    ≡ with_carried m c s (if here then carried_in c s octets else []) es
once-at m c s true octets es = once-of m c s (reading octets) es
once-at m c s false octets es = refl

module _ (N : Network) (n : IsNetwork N) (s : ℕ) (place : s < N.sessions) (r : RunningNetwork) (h : IsHonest N r) (a : Account) (at : Own N s r a) where
  -- the session's own copies are in the window, and are accepted one after another
  given-in_time : (k : ℕ) → length a.begun ≤ k + 32768 → IsGiven (manager N s) a k (greatest (manager N s) a.accepted + 1)
  given-in_time k time = record {
    window = λ within. in_step-window (manager N s) (expected_ports N s) a.accepted (state_of (r.session s) (r.reports s) a) k at.step within time;
    index = λ within above. omega (arith, within, above, at.step.one_at_a_time, at.step.accepted_before);
  }

  own-turned : (port : ℕ) (f : Frame) → IsTrue N f.octets f.origin → IsSaid N s a f.octets f.origin
      → (d : ℕ) → HasEnd N (AtPort d port) → ((k : ℕ) → f.origin ≡ RequestOf s k → d ≡ (N.session s).target → length a.begun ≤ k + 32768)
      → Own N s (after_turn N r d port f)
      (with_accepted a (with_carried (manager N s) (N.clock (N.session s).target) (r.clock (N.session s).target) (carried_at N r (N.session s).target (AtPort d port) f.octets) a.accepted))
  own-turned port f says said d end time =
      let c = (N.session s).target in
      let m = manager N s in
      let j = greatest m a.accepted + 1 in
      let new = carried_as j m (N.clock c) (r.clock c) (carried_at N r c (AtPort d port) f.octets) a.accepted in
      let turned = held-turned N n s place r h a (own-held N s (r.session s) (r.reports s) (r.clock c) r.frames a at) port f says said d j end
      (λ k o here. given-in_time k (time k o here)) in
      let own : Own N s (after_turn N r d port f) (with_accepted a new) = record {
        value_is = at.value_is;
        step = step-gained m (expected_ports N s) new a.accepted (state_of (r.session s) (r.reports s) a) turned.gains at.step;
        last = turned.held.last;
        frames_say = turned.held.frames_say;
      } in
      subst (λ es. Own N s (after_turn N r d port f) (with_accepted a es)) (once-at m (N.clock c) (r.clock c) (c == d) f.octets a.accepted) own

-- ---- one event

-- every frame is true, and the session is as its account says
pub record Stays (N : Network) (s : ℕ) (r : RunningNetwork) (a : Account) : Type 0 where
  pub network : IsNetwork N
  pub place : s < N.sessions
  pub honest : IsHonest N r
  pub own : Own N s r a

module _ (N : Network) (n : IsNetwork N) (s : ℕ) (place : s < N.sessions) (r : RunningNetwork) (h : IsHonest N r) (a : Account) (at : Own N s r a) where
  -- a session becomes another: this one, or another one
  own-set : (f : SessionValue → SessionValue) (t : ℕ)
      → IsOwn N s (f (r.session s)) (r.reports s) (r.clock (N.session s).target) r.frames a
      → IsOwn N s (with_place r.session t (f (r.session t)) s) (r.reports s) (r.clock (N.session s).target) r.frames a
  own-set f t new = grind (arith, eqb-true)

  own-begins : (t : ℕ) (q : Ask) → t < N.sessions → q.id < 2 ^ 16 → begin_refusal (r.session t) q ≡ None
      → IsOwn N s (with_place r.session t (begun (r.session t) (ask.request_of q)) s) (r.reports s) (r.clock (N.session s).target) r.frames
      (record { begun = with_begun s (Begin t q) a.begun; accepted = a.accepted })
  own-begins t q there id fine =
      let request = ask.request_of q in
      by_test (t == s)
      (λ y. let ts : t ≡ s = eqb-true t s y in
      let asked : IsAsked (expected_ports N s) request = subst (λ j. IsAsked (expected_ports N j) request) ts ((begins-honest N r t q n h there id fine).asked request refl) in
      let idle = subst (λ j. begin_refusal (r.session j) q ≡ None) ts fine in
      rw (ts, eq-eqb s s refl) (own-begun N s (r.session s) (r.reports s) (r.clock (N.session s).target) r.frames a at request asked (begin-not_refused (r.session s) q idle).0))
      (λ o. rw (o, flipped t s o) at)

  own-sends : (t : ℕ) → t < N.sessions → Own N s (sends_in N r t) a
  own-sends t there =
      let base = own-set sent t (own-sent N s (r.session s) (r.reports s) (r.clock (N.session s).target) r.frames a at) in
      record {
        value_is = base.value_is;
        step = base.step;
        last = base.last;
        frames_say = all_append (IsOwnFrame N s a) r.frames _ at.frames_say
            (sent-all (IsOwnFrame N s a) N t (r.session t).issued (due_message (r.session t)) n
            (λ v e end he. λ (ts : t ≡ s).
            let by : IsSentBy N s (r.session s) v = grind (arith, IsSentBy, sent_by) in
            subst (λ j. IsRequestFrame (N.session s).setup a.begun (r.session j).issued (canonical v)) (sym ts)
            (own-message N s (r.session s) (r.reports s) (r.clock (N.session s).target) r.frames a at v by)));
      }

  own-hears_in : (t : ℕ) (x : Received)
      → (t ≡ s → IsOwn N s (left_by (r.session s) x) (reports_with (r.reports s) x) (r.clock (N.session s).target) r.frames a)
      → Own N s (hears r t x) a
  own-hears_in t (received.Ignored reason) new = at
  own-hears_in t (received.Answered report) new = grind (arith, eqb-true)

  issued-begun : (r.session s).issued ≡ length a.begun
  issued-begun = ap (λ (x : SessionValue). x.issued) at.value_is

  own-reaches : (x : Held) (end : End) → IsTrueFrame N x → IsOwnFrame N s a x → HasEnd N end
      → is_for N s end x.origin && is_behind r x.origin ≡ false
      → Own N s (reaches N r x end).network
      (record { begun = a.begun; accepted = with_carried (manager N s) (N.clock (N.session s).target) (r.clock (N.session s).target) (carried_at N r (N.session s).target end x.octets) a.accepted })
  own-reaches x (AtPort d port) i said end late =
      own-turned N n s place r h a at port (seen x) i.says said d end
      (λ k o here. grind (arith, issued-begun, timely-for, and_from, eq-eqb))
  own-reaches x (AtSession t) i said end late =
      own-hears_in t (received_of (r.session t) x.octets)
      (λ ts. subst (λ j. IsOwn N s (left_by (r.session s) (received_of (r.session j) x.octets)) (reports_with (r.reports s) (received_of (r.session j) x.octets)) (r.clock (N.session s).target) r.frames a) (sym ts)
      (own-hears N s (r.session s) (r.reports s) (r.clock (N.session s).target) r.frames a at x.octets x.origin (received_of (r.session s) x.octets) n place i.says said
      (λ k o. grind (arith, issued-begun, timely-for, and_from, eq-eqb)) refl))

  -- both, after what happened
  stays : (x : RunningNetwork) (b : Account) → IsHonest N x → Own N s x b → Stays N s x b
  stays x b honest own = record { network = n; place = place; honest = honest; own = own }

  own-replayed : (k : ℕ) (x : Held) (end : End) → frame_at r.frames k ≡ Some x
      → Own N s (record r { frames = r.frames ++ record x { end = end } ∷ [] }) a
  own-replayed k x end e = record {
    value_is = at.value_is;
    step = at.step;
    last = at.last;
    frames_say = all_append (IsOwnFrame N s a) r.frames _ at.frames_say (frame_at-all (IsOwnFrame N s a) r.frames k x at.frames_say e, tt);
  }

  each-stays : HoldsAfterEach N r (λ e x. is_late_for N s r e ≡ false → Stays N s x (account_with N s r e a))
  unfolding carried_by_event
  each-stays = record {
    begins = λ t q there id fine late. stays _ _ (session-honest N r t _ h (begins-honest N r t q n h there id fine)) (own-begins t q there id fine);
    sends = λ t there late. stays _ _ (sends-honest N r t n h there) (own-sends t there);
    resumes = λ t attempts there late. stays _ _ (moved-honest N r h t (λ x. resumed x attempts) there refl refl)
        (own-set (λ x. resumed x attempts) t (own-resumed N s (r.session s) (r.reports s) (r.clock (N.session s).target) r.frames a at attempts));
    retunes = λ t domain there late. stays _ _ (moved-honest N r h t (λ x. retuned x domain) there refl refl)
        (own-set (λ x. retuned x domain) t (own-retuned N s (r.session s) (r.reports s) (r.clock (N.session s).target) r.frames a at domain));
    delivers = λ k x e.
        let c = (N.session s).target in
        let i = frame-true N n r h k x e in
        subst (λ (o : Option Held). is_late_frame_for N s r o ≡ false
        → Stays N s (reaches N r x x.end).network (record { begun = a.begun; accepted = with_carried (manager N s) (N.clock c) (r.clock c) (carried_of_frame N r c o) a.accepted }))
        (sym e)
        (λ late. stays _ _ (reaches-honest N n r h x x.end i.says i.end)
        (own-reaches x x.end i (frame_at-all (IsOwnFrame N s a) r.frames k x at.frames_say e) i.end late));
    replays = λ k end x e there late. stays _ _ (replayed-honest N n r h k x end e there) (own-replayed k x end e);
    intrudes = λ c port datagram end says late. stays _ _ (turns-honest N r c port (strange_frame c port datagram) n h end says)
        (own-turned N n s place r h a at port (strange_frame c port datagram) says tt c end (λ k o here. absurd (cc)));
  }

  stays-event : (e : Event) → IsInRange e → is_late_for N s r e ≡ false
      → Then (network_event N r e) (λ g. Stays N s g.network (account_with N s r e a))
  stays-event e i late = λ g is. holds_after N r (λ e x. is_late_for N s r e ≡ false → Stays N s x (account_with N s r e a)) each-stays e i g is late

-- ---- where the account begins

nothing-last : (first : PortIdentity → ℕ) (d : DataSetsValue) (m : PortIdentity) (own : ℕ) (o : Option Entry)
    → IsKept first (initial_history d) m o
    → IsLastOf m own [] o
nothing-last first d m own None h = refl
nothing-last first d m own (Some e) h = nothing_kept first d m e h

pub stays-first : (N : Network) (s : ℕ) (r : RunningNetwork) → s < N.sessions → StandsAfter N [] r → Stays N s r (account_of N s [])
stays-first N s r place at =
    let n = at.promised.network in
    let first : ℕ → PortIdentity → ℕ = first_of_sessions N N.sessions in
    let there = at.stands first (firsts N n) in
    let a : Account = account_of N s [] in
    let target = (N.session s).target in
    let value : SessionValue = session_value (N.session s) (initial_session_state (N.session s)) in grind (arith, first-honest, IsOwn, first-reached, nothing-last)

-- ---- every event

stays-by : (N : Network) (s : ℕ) (r : RunningNetwork) (a : Account) → HasAccount N s r a → Stays N s r a
stays-by N s r a (AtStart start place at) = stays-first N s start place at
stays-by N s new b (After r a e h before i is late) =
    let at = stays-by N s r a before in stays-event N at.network s at.place r at.honest a at.own e i late h is

account-while : (N : Network) (s : ℕ) (r : RunningNetwork) (a b : Account) (es : List Event) (late : Bool) (x : Result Happened Refusal)
    → HasAccount N s r a → in_time_while x late (λ next. StaysInTime N s next es)
    → ((h : Happened) → x ≡ Ok h → late ≡ false → StaysInTime N s h.network es → HasAccount N s (network_run N h.network es) (account_from N s h.network b es))
    → HasAccount N s (goes_on r x (λ next. network_run N next es)) (account_while x a (λ next. account_from N s next b es))
account-while N s r a b es late (Ok h) at time behind = behind h refl time.0 time.1
account-while N s r a b es late (Err reason) at time behind = at

pub account-run : (N : Network) (s : ℕ) (r : RunningNetwork) (a : Account) (es : List Event)
    → HasAccount N s r a → AllByRecursion IsInRange es → StaysInTime N s r es
    → HasAccount N s (network_run N r es) (account_from N s r a es)
account-run N s r a [] at i time = at
account-run N s r a (e ∷ es) at i time =
    account-while N s r a (account_with N s r e a) es (is_late_for N s r e) (network_event N r e) at time
    (λ h is late rest. account-run N s h.network (account_with N s r e a) es (After r a e h at i.0 is late) i.1 rest)

-- ---- what it is served

module _ (N : Network) (s : ℕ) (r : RunningNetwork) (a : Account) (at : Stays N s r a) where
  timely : (number port k : ℕ) (x : Held) (v : Message) → IsTimelyCopy N s r number port k x v
      → TurnsOwn (manager N s) (N.session s).setup.first a.begun (N.clock (N.session s).target) (r.clock (N.session s).target) port x.octets v k (greatest (manager N s) a.accepted + 1) a.accepted
  timely number port k x v copy =
      let c = (N.session s).target in
      let i = frame-true N at.network r at.honest number x copy.frame in
      let said = frame_at-all (IsOwnFrame N s a) r.frames number x at.own.frames_say copy.frame in
      let late : is_late_at k (r.session s).issued ≡ false = grind arith in
      let time : length a.begun ≤ k + 32768 = grind (arith, issued-begun, ltb-false) in
      let many : ports N c ≡ length (r.clock c).sets.ports = grind arith in
      let j = greatest (manager N s) a.accepted + 1 in
      turns_own (manager N s) (N.session s).setup.first (expected_ports N s) (N.clock c) (r.clock c) port x.octets v k j a.accepted a.begun copy.read
      (comes_own N at.network s at.place r at.honest a (own-held N s (r.session s) (r.reports s) (r.clock c) r.frames a at.own) port (seen x) i.says said v k j copy.origin (given-in_time N at.network s at.place r at.honest a at.own k time) copy.read (subst (λ p. is_copy (N.clock c) p v ≡ true) many copy.copy))

  pub is-served : IsServed N s r a
  is-served =
      let order = in_order (manager N s) (expected_ports N s) a.accepted (state_of (r.session s) (r.reports s) a) at.own.step in
      record {
        accepted = λ k p le. let was = at.own.step.without_gap k p le in (was.entry, was.is, was.begun_as);
        accepted_begun = order.accepted_begun;
        begun_accepted = order.begun_accepted;
        reports = order.rest;
        reported_accepted = order.reported_accepted;
        begun_reported = order.begun_reported;
        latest = λ number port k x v copy e. let told = (timely number port k x v copy).latest e in (told.entry, told.kept, told.is);
        older = λ number port k x v copy l. (timely number port k x v copy).older l;
      }

pub served_by : (N : Network) (s : ℕ) (r : RunningNetwork) (a : Account) → HasAccount N s r a → IsServedSoFar N s r a
served_by N s r a at = record { account = at; served = is-served N s r a (stays-by N s r a at) }

pub served-first : (N : Network) (s : ℕ) (r : RunningNetwork) → s < N.sessions → StandsAfter N [] r → IsServedSoFar N s r (account_of N s [])
served-first N s r place at = served_by N s r (account_of N s []) (AtStart r place at)

pub served-event : (N : Network) (s : ℕ) (r : RunningNetwork) (a : Account) (e : Event) (h : Happened)
    → IsServedSoFar N s r a → IsInRange e → network_event N r e ≡ Ok h → is_late_for N s r e ≡ false
    → IsServedSoFar N s h.network (account_with N s r e a)
served-event N s r a e h at i is late = served_by N s h.network (account_with N s r e a) (After r a e h at.account i is late)
