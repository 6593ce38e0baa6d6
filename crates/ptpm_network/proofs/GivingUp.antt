-- A manager whose own messages come in time is served in order, whatever it gives up, and whatever others do.
use Rattle.ptpm_network.proofs.Common.{expected_ports, at_place, ◌++◌, arith, by_test, ◌≡◌, ℕ, ◌+◌, ◌<◌, ◌≤◌, ◌==◌, ◌^◌, ◌&&◌, is_some, nat_lt, Bool, List, [], ◌∷◌, length, Option, Some, None, Result, Ok, Err, true, false, refl, sym, ◌∙◌, ap, subst, and_from, eq-eqb, eqb-true, ltb-false, same_Some, all_append, frame_at-all, AllByRecursion, Message, canonical, is_copy, received_of, IsAsked, strange_frame, with_place, AtPort, AtSession, End, HasEnd, IsNetwork, Network, manager, ports, Held, Frame, seen, Origin, RequestOf, ReplyTo, SessionValue, Happened, Refusal, network_event, after_turn, reaches, hears, RunningNetwork, begun, resumed, retuned, sent, due_message, Ask, begin_refusal, Event, Begin, IsInRange, frame_at, is_late_at, sends_in, StandsAfter, session_value, PortIdentity, Accepted, greatest, kept_reply, Report, same_identity, Clock, State, cond-true, cond-false, if◌then◌else◌, le_trans}
use Rattle.std.proofs.lemmas.Bool.{ltb-true}
use Rattle.std.specs.FinMap.{get}
use Rattle.ptpm_data.specs.ObservationBack.{Observation}
use Rattle.ptpm_data.specs.ObservationLaws.{IsSizedObservation}
use Rattle.ptpm_table.specs.Entries.{Entries}
use Rattle.ptpm_agent.specs.Observing.{moved_state}
use Rattle.ptpm_agent.specs.Turn.{NumberedRequest, after_request, entry_of}
use Rattle.ptpm_manager.specs.Ask as ask
use Rattle.ptpm_manager.specs.Receiving.{left_by}
use Rattle.ptpm_manager.specs.Session.{IsInReach, give_up_refusal, given_up}
use Rattle.ptpm_manager.specs.declared.error.GiveUpRefusal.{GiveUpRefusal}
use Rattle.ptpm_manager.specs.declared.receiving.Received.{Received}
use Rattle.ptpm_manager.specs.declared.receiving.Received.TheVariants as received
use Rattle.ptpm_network.specs.ByManager.{Account, is_behind, is_for, is_late_for, is_late_frame_for, with_begun}
use Rattle.ptpm_network.specs.CarriedOut.{carried_at, carried_by_event, carried_of_frame}
use Rattle.ptpm_network.specs.GivingUp.{Act, Acts, After, AreRising, AtStart, Further, GivesUp, GoesOn, Observes, Happens, HasHistory, Here, IsKeptReport, IsServedInOrder, RiseFrom, account_after, after_event, after_give_up, after_observation, carried_as, index_at, index_of_held, IsPossible, network_act, nothing_yet}
use Rattle.ptpm_network.specs.Machine.{index_of}
use Rattle.ptpm_network.specs.Served.{IsTimelyCopy}
use Rattle.ptpm_network.specs.Invariant.{IsRequestFrame}
use Rattle.ptpm_network.specs.State.{initial_session_state}
use Rattle.ptpm_network.proofs.Accepting.{greatest-grows, kept-joined}
use Rattle.ptpm_network.proofs.AtWork.{IsAtWork, reach-waiting, reach-within, work-begun, work-gained, work-given, work-given_up, work-hears, work-set}
use Rattle.ptpm_network.proofs.Served.{HoldsAfterEach, holds_after, stays-first, timely-for}
use Rattle.ptpm_network.proofs.Honest.{observed-honest, replayed-honest, IsHonest, IsSentBy, IsTrueFrame, begins-honest, frame-true, moved-honest, reaches-honest, sends-honest, sent-all, sent_by, session-honest, turns-honest}
use Rattle.ptpm_network.proofs.Frames.{IsTrue}
use Rattle.ptpm_network.proofs.Owned.{IsLastOf, TurnsOwn, turns_own, IsOwnFrame, IsSaid, own-held, reports_with, sent-says}
use Rattle.ptpm_network.proofs.Promise.{first_of_sessions, firsts}
use Rattle.ptpm_network.proofs.Refusals.{begin-not_refused}
use Rattle.ptpm_network.proofs.Serving.{IsGiven, comes_own, held-turned, with_accepted}
use Rattle.ptpm_network.proofs.Lists.{flipped}

abbrev pub AtWork : Network → ℕ → RunningNetwork → Account → Type 0
AtWork N s r a = IsAtWork N s (r.session s) (r.reports s) (r.clock (N.session s).target) r.frames a

-- every frame is true, and the session is as its account says
pub record Works (N : Network) (s : ℕ) (r : RunningNetwork) (a : Account) : Type 0 where
  pub network : IsNetwork N
  pub place : s < N.sessions
  pub honest : IsHonest N r
  pub work : AtWork N s r a

happened-as : (x : Result Happened Refusal) (next : RunningNetwork) → after_event x ≡ Some next
    → (h : Happened) × (x ≡ Ok h) × (h.network ≡ next)
happened-as (Ok h) next is = (h, refl, same_Some h.network next is)
happened-as (Err reason) next is = absurd (cc)

-- ---- one act

module _ (N : Network) (n : IsNetwork N) (s : ℕ) (place : s < N.sessions) (r : RunningNetwork) (h : IsHonest N r) (a : Account) (at : AtWork N s r a) where
  works : (x : RunningNetwork) (b : Account) → IsHonest N x → AtWork N s x b → Works N s x b
  works x b honest work = record { network = n; place = place; honest = honest; work = work }

  -- a session becomes another: this one, or another one
  work-placed : (f : SessionValue → SessionValue) (t : ℕ)
      → (t ≡ s → IsAtWork N s (f (r.session s)) (r.reports s) (r.clock (N.session s).target) r.frames a)
      → IsAtWork N s (with_place r.session t (f (r.session t)) s) (r.reports s) (r.clock (N.session s).target) r.frames a
  work-placed f t new = by_test (t == s)
      (λ y. let ts : t ≡ s = eqb-true t s y in rw (ts, eq-eqb s s refl) (new ts))
      (λ o. rw (flipped t s o) at)

  -- what is no part of it
  work-tuned : (f : SessionValue → SessionValue) (t : ℕ)
      → (f (r.session s)).setup ≡ (r.session s).setup → (f (r.session s)).issued ≡ (r.session s).issued
      → (f (r.session s)).reported ≡ (r.session s).reported → (f (r.session s)).unanswered ≡ (r.session s).unanswered
      → IsAtWork N s (with_place r.session t (f (r.session t)) s) (r.reports s) (r.clock (N.session s).target) r.frames a
  work-tuned f t setup issued reported unanswered =
      work-placed f t (λ ts. work-set N s (r.session s) (r.reports s) (r.clock (N.session s).target) r.frames a at (f (r.session s)) setup issued reported unanswered)

  work-begins : (t : ℕ) (q : Ask) → t < N.sessions → q.id < 2 ^ 16 → begin_refusal (r.session t) q ≡ None
      → IsAtWork N s (with_place r.session t (begun (r.session t) (ask.request_of q)) s) (r.reports s) (r.clock (N.session s).target) r.frames
      (record { begun = with_begun s (Begin t q) a.begun; accepted = a.accepted })
  work-begins t q there id fine =
      let request = ask.request_of q in
      by_test (t == s)
      (λ y. let ts : t ≡ s = eqb-true t s y in
      let asked : IsAsked (expected_ports N s) request = subst (λ j. IsAsked (expected_ports N j) request) ts ((begins-honest N r t q n h there id fine).asked request refl) in
      let idle = subst (λ j. begin_refusal (r.session j) q ≡ None) ts fine in
      rw (ts, eq-eqb s s refl) (work-begun N s (r.session s) (r.reports s) (r.clock (N.session s).target) r.frames a at request asked (begin-not_refused (r.session s) q idle).0))
      (λ o. rw (o, flipped t s o) at)

  -- what it sends is its last request
  own-message : (v : Message) → IsSentBy N s (r.session s) v → IsRequestFrame (N.session s).setup a.begun (r.session s).issued (canonical v)
  own-message v by =
      let waits : is_some (r.session s).unanswered ≡ true = ap is_some by.unanswered in
      let before = reach-waiting (r.session s).issued (r.session s).reported (r.session s).unanswered waits at.reach in
      sent-says N s (r.session s) a v by (omega (arith, before)) (at.last_begun by.request by.unanswered)

  work-sends : (t : ℕ) → t < N.sessions → AtWork N s (sends_in N r t) a
  work-sends t there =
      let base = work-tuned sent t refl refl refl refl in
      record {
        setup = base.setup;
        issued = base.issued;
        last_begun = base.last_begun;
        reach = base.reach;
        told = base.told;
        rising = base.rising;
        kept = base.kept;
        order = base.order;
        held = record {
          keeps = base.held.keeps;
          last = base.held.last;
          frames_say = all_append (IsOwnFrame N s a) r.frames _ at.held.frames_say
              (sent-all (IsOwnFrame N s a) N t (r.session t).issued (due_message (r.session t)) n
              (λ v e end he. λ (ts : t ≡ s).
              subst (λ j. IsRequestFrame (N.session s).setup a.begun (r.session j).issued (canonical v)) (sym ts)
              (own-message v (sent_by N s (r.session s) v n place (h.sessions s place) (subst (λ j. due_message (r.session j) ≡ Some v) ts e)))));
        };
      }

  work-hears_in : (t : ℕ) (x : Received)
      → (t ≡ s → IsAtWork N s (left_by (r.session s) x) (reports_with (r.reports s) x) (r.clock (N.session s).target) r.frames a)
      → AtWork N s (hears r t x) a
  work-hears_in t (received.Ignored reason) new = at
  work-hears_in t (received.Answered report) new = by_test (t == s)
      (λ y. let ts : t ≡ s = eqb-true t s y in rw (ts, eq-eqb s s refl) (new ts))
      (λ o. rw (flipped t s o) at)

  work-turned : (port : ℕ) (f : Frame) → IsTrue N f.octets f.origin → IsSaid N s a f.octets f.origin
      → (d : ℕ) → HasEnd N (AtPort d port) → ((k : ℕ) → f.origin ≡ RequestOf s k → d ≡ (N.session s).target → length a.begun ≤ k + 32768)
      → AtWork N s (after_turn N r d port f)
      (with_accepted a (carried_as (index_of f.origin) (manager N s) (N.clock (N.session s).target) (r.clock (N.session s).target) (carried_at N r (N.session s).target (AtPort d port) f.octets) a.accepted))
  work-turned port f says said d end time =
      let value = r.session s in
      work-gained N s value (r.reports s) (r.clock (N.session s).target) r.frames a at _ _ _
      (held-turned N n s place r h a at.held port f says said d (index_of f.origin) end
      (λ k o here. subst (λ (p : Origin). IsGiven (manager N s) a k (index_of p)) (sym o)
      (work-given N s value (r.reports s) (r.clock (N.session s).target) r.frames a at k (time k o here))))

  in-time : (x : Held) (end : End) → is_for N s end x.origin && is_behind r x.origin ≡ false
      → (k : ℕ) → (p : Origin) → x.origin ≡ p → is_for N s end p ≡ true → is_behind r p ≡ is_late_at k (r.session s).issued
      → length a.begun ≤ k + 32768
  in-time x end late k p o for behind =
      subst (λ i. i ≤ k + 32768) at.issued (timely-for N s r x.origin p end k late o for behind)

  work-reaches : (x : Held) (end : End) → IsTrueFrame N x → IsOwnFrame N s a x → HasEnd N end
      → is_for N s end x.origin && is_behind r x.origin ≡ false
      → AtWork N s (reaches N r x end).network
      (record { begun = a.begun; accepted = carried_as (index_of x.origin) (manager N s) (N.clock (N.session s).target) (r.clock (N.session s).target) (carried_at N r (N.session s).target end x.octets) a.accepted })
  work-reaches x (AtPort d port) i said end late =
      work-turned port (seen x) i.says said d end
      (λ k o here. in-time x (AtPort d port) late k (RequestOf s k) o (and_from _ _ (eq-eqb s s refl) (eq-eqb d (N.session s).target here)) refl)
  work-reaches x (AtSession t) i said end late =
      work-hears_in t (received_of (r.session t) x.octets)
      (λ ts. subst (λ j. IsAtWork N s (left_by (r.session s) (received_of (r.session j) x.octets)) (reports_with (r.reports s) (received_of (r.session j) x.octets)) (r.clock (N.session s).target) r.frames a) (sym ts)
      (work-hears N s (r.session s) (r.reports s) (r.clock (N.session s).target) r.frames a at x.octets x.origin (received_of (r.session s) x.octets) n place i.says said
      (λ k o. in-time x (AtSession t) late k (ReplyTo s k) o (and_from _ _ (eq-eqb s s refl) (eq-eqb t s ts)) refl) refl))

  work-replayed : (k : ℕ) (x : Held) (end : End) → frame_at r.frames k ≡ Some x
      → AtWork N s (record r { frames = r.frames ++ record x { end = end } ∷ [] }) a
  work-replayed k x end e = record {
    setup = at.setup;
    issued = at.issued;
    last_begun = at.last_begun;
    reach = at.reach;
    told = at.told;
    rising = at.rising;
    kept = at.kept;
    order = at.order;
    held = record {
      keeps = at.held.keeps;
      last = at.held.last;
      frames_say = all_append (IsOwnFrame N s a) r.frames _ at.held.frames_say (frame_at-all (IsOwnFrame N s a) r.frames k x at.held.frames_say e, tt);
    };
  }

  each-works : HoldsAfterEach N r (λ e x. is_late_for N s r e ≡ false → Works N s x (account_after N s r (Happens e) a))
  unfolding carried_by_event
  each-works = record {
    begins = λ t q there id fine late. works _ _ (session-honest N r t _ h (begins-honest N r t q n h there id fine)) (work-begins t q there id fine);
    sends = λ t there late. works _ _ (sends-honest N r t n h there) (work-sends t there);
    resumes = λ t attempts there late. works _ _ (moved-honest N r h t (λ x. resumed x attempts) there refl refl)
        (work-tuned (λ x. resumed x attempts) t refl refl refl refl);
    retunes = λ t domain there late. works _ _ (moved-honest N r h t (λ x. retuned x domain) there refl refl)
        (work-tuned (λ x. retuned x domain) t refl refl refl refl);
    delivers = λ k x e.
        let c = (N.session s).target in
        let i = frame-true N n r h k x e in
        subst (λ (o : Option Held). is_late_frame_for N s r o ≡ false
        → Works N s (reaches N r x x.end).network (record { begun = a.begun; accepted = carried_as (index_of_held o) (manager N s) (N.clock c) (r.clock c) (carried_of_frame N r c o) a.accepted }))
        (sym e)
        (λ late. works _ _ (reaches-honest N n r h x x.end i.says i.end)
        (work-reaches x x.end i (frame_at-all (IsOwnFrame N s a) r.frames k x at.held.frames_say e) i.end late));
    replays = λ k end x e there late. works _ _ (replayed-honest N n r h k x end e there) (work-replayed k x end e);
    intrudes = λ c port datagram end says late. works _ _ (turns-honest N r c port (strange_frame c port datagram) n h end says)
        (work-turned port (strange_frame c port datagram) says tt c end (λ k o here. absurd (cc)));
  }

  works-event : (e : Event) (next : RunningNetwork) → IsInRange e → is_late_for N s r e ≡ false
      → after_event (network_event N r e) ≡ Some next
      → Works N s next (account_after N s r (Happens e) a)
  works-event e next i late is =
      let happened = happened-as (network_event N r e) next is in
      subst (λ x. Works N s x (account_after N s r (Happens e) a)) happened.2
      (holds_after N r (λ e x. is_late_for N s r e ≡ false → Works N s x (account_after N s r (Happens e) a)) each-works e i happened.0 happened.1 late)

  -- a session gives up
  works-given_up : (t : ℕ) (next : RunningNetwork) (o : Option GiveUpRefusal) → t < N.sessions
      → give_up_refusal (r.session t) ≡ o → after_give_up r t o ≡ Some next
      → Works N s next a
  works-given_up t next None there fine is =
      subst (λ x. Works N s x a) (same_Some _ next is)
      (works _ _ (session-honest N r t (given_up (r.session t)) h (record { setup = (h.sessions t there).setup; asked = λ q e. absurd (cc) }))
      (work-placed given_up t (λ ts. work-given_up N s (r.session s) (r.reports s) (r.clock (N.session s).target) r.frames a at
      (subst (λ j. give_up_refusal (r.session j) ≡ None) ts fine))))
  works-given_up t next (Some reason) there fine is = absurd (cc)

  -- a host observes its clock: what the clock keeps of a manager stays
  works-observed : (c : ℕ) (o : Observation) → c < N.clocks → IsSizedObservation o.clock → Works N s (after_observation r c o) a
  works-observed c o there fits =
      let t = (N.session s).target in
      let entries : (with_place r.clock c (moved_state o.clock o.ports (r.clock c)) t).entries ≡ (r.clock t).entries =
      at_place (λ i (x : State). x.entries ≡ (r.clock i).entries) r.clock c (moved_state o.clock o.ports (r.clock c)) t refl refl in
      works _ _ (observed-honest N r c o h there fits) (record {
        setup = at.setup;
        issued = at.issued;
        last_begun = at.last_begun;
        reach = at.reach;
        told = at.told;
        rising = at.rising;
        kept = at.kept;
        order = at.order;
        held = record {
          keeps = at.held.keeps;
          last = subst (λ (es : Entries). IsLastOf (manager N s) (N.session s).setup.first a.accepted (get es (manager N s))) (sym entries) at.held.last;
          frames_say = at.held.frames_say;
        };
      })

clock-by : (N : Network) (r next : RunningNetwork) (s c : ℕ) (o : Option GiveUpRefusal)
    → after_give_up r s o ≡ Some next
    → next.clock c ≡ r.clock c
clock-by N r next s c None is = ap (λ (x : RunningNetwork). x.clock c) (sym (same_Some _ next is))
clock-by N r next s c (Some reason) is = absurd (cc)

none-some : {A P : Type 0} (a : A) → None ≡ Some a → P
none-some a e = absurd (cc)

pub works-act : (N : Network) (s : ℕ) (r next : RunningNetwork) (a : Account) (x : Act)
    → Works N s r a → Acts N s r next x
    → Works N s next (account_after N s r x a)
unfolding network_act
works-act N s r next a (Happens e) at acts =
    works-event N at.network s at.place r at.honest a at.work e next acts.possible acts.in_time acts.happens
works-act N s r next a (GivesUp t) at acts = by_test (nat_lt t N.sessions)
    (λ y. works-given_up N at.network s at.place r at.honest a at.work t next (give_up_refusal (r.session t)) (ltb-true t N.sessions y) refl
    (sym (cond-true (nat_lt t N.sessions) (after_give_up r t (give_up_refusal (r.session t))) None y) ∙ acts.happens))
    (λ o. none-some next (sym (cond-false (nat_lt t N.sessions) (after_give_up r t (give_up_refusal (r.session t))) None o) ∙ acts.happens))
works-act N s r next a (Observes c o) at acts = by_test (nat_lt c N.clocks)
    (λ y. subst (λ x. Works N s x a) (same_Some _ next (sym (cond-true (nat_lt c N.clocks) (Some (after_observation r c o)) None y) ∙ acts.happens))
    (works-observed N at.network s at.place r at.honest a at.work c o (ltb-true c N.clocks y) acts.possible))
    (λ n. none-some next (sym (cond-false (nat_lt c N.clocks) (Some (after_observation r c o)) None n) ∙ acts.happens))

works-first : (N : Network) (s : ℕ) (r : RunningNetwork) → s < N.sessions → StandsAfter N [] r → Works N s r nothing_yet
works-first N s r place start =
    let at = stays-first N s r place start in
    let there = start.stands (first_of_sessions N N.sessions) (firsts N at.network) in
    let value : SessionValue = session_value (N.session s) (initial_session_state (N.session s)) in
    let is : r.session s ≡ value = there.sessions s place in
    let none : r.reports s ≡ [] = there.reports s place in
    record {
      network = at.network;
      place = place;
      honest = at.honest;
      work = record {
        setup = ap (λ (x : SessionValue). x.setup) is;
        issued = ap (λ (x : SessionValue). x.issued) is;
        last_begun = λ q e. none-some q (sym (ap (λ (x : SessionValue). x.unanswered) is) ∙ e);
        reach = subst (λ (x : SessionValue). IsInReach x.issued x.reported x.unanswered) (sym is) (omega arith, omega arith);
        told = subst (λ (x : SessionValue). x.reported ≤ greatest (manager N s) []) (sym is) (omega arith);
        rising = tt;
        kept = subst (AllByRecursion (IsKeptReport (manager N s) [])) (sym none) tt;
        order = subst (λ (l : List Report). RiseFrom 0 l (r.session s).reported) (sym none) (sym (ap (λ (x : SessionValue). x.reported) is));
        held = own-held N s (r.session s) (r.reports s) (r.clock (N.session s).target) r.frames nothing_yet at.own;
      };
    }

-- ---- what it is served

pub works-by : (N : Network) (s : ℕ) (r : RunningNetwork) (a : Account) → HasHistory N s r a → Works N s r a
works-by N s r a (AtStart start place at) = works-first N s start place at
works-by N s r a (After before next b x history acts) = works-act N s before next b x (works-by N s before b history) acts

module _ (N : Network) (s : ℕ) (r : RunningNetwork) (a : Account) (at : Works N s r a) where
  timely : (number port k : ℕ) (x : Held) (v : Message) → IsTimelyCopy N s r number port k x v
      → TurnsOwn (manager N s) (N.session s).setup.first a.begun (N.clock (N.session s).target) (r.clock (N.session s).target) port x.octets v k k a.accepted
  timely number port k x v copy =
      let c = (N.session s).target in
      let i = frame-true N at.network r at.honest number x copy.frame in
      let said = frame_at-all (IsOwnFrame N s a) r.frames number x at.work.held.frames_say copy.frame in
      let late : is_late_at k (r.session s).issued ≡ false = subst (λ (o : Origin). is_behind r o ≡ false) copy.origin copy.in_time in
      let time : length a.begun ≤ k + 32768 = subst (λ i. i ≤ k + 32768) at.work.issued (ltb-false (k + 32768) (r.session s).issued late) in
      let many : ports N c ≡ length (r.clock c).sets.ports = sym (at.honest.clocks c (at.network.are_sessions s at.place).exists).sets.ports_are in
      turns_own (manager N s) (N.session s).setup.first (expected_ports N s) (N.clock c) (r.clock c) port x.octets v k k a.accepted a.begun copy.read
      (comes_own N at.network s at.place r at.honest a at.work.held port (seen x) i.says said v k k copy.origin
      (work-given N s (r.session s) (r.reports s) (r.clock c) r.frames a at.work k time) copy.read (subst (λ p. is_copy (N.clock c) p v ≡ true) many copy.copy))

  is-served : IsServedInOrder N s r a
  is-served = record {
    accepted = λ k entry positive kept.
        let was = at.work.held.keeps.was k entry positive kept in
        let same : was.entry ≡ entry = same_Some was.entry entry (sym was.is ∙ kept) in
        was.begun_as ∙ ap (λ (e : Accepted). Some e.request) same;
    rising = at.work.rising;
    reports = at.work.kept;
    order = at.work.order;
    reported_accepted = at.work.told;
    accepted_begun = subst (λ i. greatest (manager N s) a.accepted ≤ i) (sym at.work.issued) at.work.held.keeps.begun_before;
    within_reach = reach-within (r.session s).issued (r.session s).reported (r.session s).unanswered at.work.reach;
    latest = λ number port k x v copy e. let told = (timely number port k x v copy).latest e in (told.entry, told.kept, told.is);
    older = λ number port k x v copy l. (timely number port k x v copy).older l;
  }

pub served-in-order : (N : Network) (s : ℕ) (r : RunningNetwork) (a : Account) → HasHistory N s r a → IsServedInOrder N s r a
served-in-order N s r a history = is-served N s r a (works-by N s r a history)

-- ---- what is decided stays so

rising-cond : (b : Bool) (m : PortIdentity) (d : Accepted) (es : List Accepted)
    → AreRising m (if b then d ∷ es else es)
    → AreRising m es
rising-cond true m d es rising = rising.1
rising-cond false m d es rising = rising

rising-before : (j : ℕ) (m : PortIdentity) (c : Clock) (s : State) (qs : List NumberedRequest) (es : List Accepted)
    → AreRising m (carried_as j m c s qs es)
    → AreRising m es
rising-before j m c s [] es rising = rising
rising-before j m c s (q ∷ qs) es rising =
    let d : Accepted = record { manager = m; index = j; request = q.request; reply = (entry_of c s q).reply } in
    rising-cond (same_identity m q.manager) m d es
    (rising-before j m c (after_request c s q) qs (if same_identity m q.manager then d ∷ es else es) rising)

-- what is kept for request k is in the second list as in the first, in which it is no later than the last
pub record StaysKept (m : PortIdentity) (k : ℕ) (es more : List Accepted) : Type 0 where
  pub same : kept_reply m k more ≡ kept_reply m k es
  pub known : k ≤ greatest m more

kept-cond : (b : Bool) (m : PortIdentity) (k : ℕ) (d : Accepted) (es : List Accepted)
    → AreRising m (if b then d ∷ es else es) → k ≤ greatest m es
    → StaysKept m k es (if b then d ∷ es else es)
kept-cond true m k d es rising known = record {
  same = kept-joined m es d k rising.0 known;
  known = le_trans known (greatest-grows m d es);
}
kept-cond false m k d es rising known = record { same = refl; known = known }

kept-carried : (j : ℕ) (m : PortIdentity) (k : ℕ) (c : Clock) (s : State) (qs : List NumberedRequest) (es : List Accepted)
    → AreRising m (carried_as j m c s qs es) → k ≤ greatest m es
    → StaysKept m k es (carried_as j m c s qs es)
kept-carried j m k c s [] es rising known = record { same = refl; known = known }
kept-carried j m k c s (q ∷ qs) es rising known =
    let d : Accepted = record { manager = m; index = j; request = q.request; reply = (entry_of c s q).reply } in
    let here : Bool = same_identity m q.manager in
    let first = kept-cond here m k d es (rising-before j m c (after_request c s q) qs (if here then d ∷ es else es) rising) known in
    let rest = kept-carried j m k c (after_request c s q) qs (if here then d ∷ es else es) rising first.known in
    record { same = rest.same ∙ first.same; known = rest.known }

pub kept-act : (N : Network) (s k : ℕ) (r : RunningNetwork) (a : Account) (x : Act)
    → AreRising (manager N s) (account_after N s r x a).accepted → k ≤ greatest (manager N s) a.accepted
    → StaysKept (manager N s) k a.accepted (account_after N s r x a).accepted
kept-act N s k r a (Happens e) rising known =
    kept-carried (index_at r e) (manager N s) k (N.clock (N.session s).target) (r.clock (N.session s).target) (carried_by_event N r (N.session s).target e) a.accepted rising known
kept-act N s k r a _ rising known = record { same = refl; known = known }

history-on : (N : Network) (s : ℕ) (r : RunningNetwork) (a : Account) (t : RunningNetwork) (b : Account)
    → HasHistory N s r a → GoesOn N s r a t b
    → HasHistory N s t b
history-on N s r a t b history Here = history
history-on N s r a end b history (Further t next c x goes acts) = After t next c x (history-on N s r a t c history goes) acts

kept-on : (N : Network) (s k : ℕ) (r : RunningNetwork) (a : Account) (t : RunningNetwork) (b : Account)
    → HasHistory N s r a → k ≤ greatest (manager N s) a.accepted → GoesOn N s r a t b
    → StaysKept (manager N s) k a.accepted b.accepted
kept-on N s k r a t b history known Here = record { same = refl; known = known }
kept-on N s k r a end b history known (Further t next c x goes acts) =
    let before = kept-on N s k r a t c history known goes in
    let later = works-by N s next (account_after N s t x c) (After t next c x (history-on N s r a t c history goes) acts) in
    let step = kept-act N s k t c x later.work.rising before.known in
    record { same = step.same ∙ before.same; known = step.known }

pub decided : (N : Network) (s k : ℕ) (r later : RunningNetwork) (a b : Account)
    → HasHistory N s r a → GoesOn N s r a later b → k ≤ (r.session s).reported
    → kept_reply (manager N s) k b.accepted ≡ kept_reply (manager N s) k a.accepted
decided N s k r later a b history goes reported =
    (kept-on N s k r a later b history (le_trans reported (works-by N s r a history).work.told) goes).same

pub clock-stays : (N : Network) (r next : RunningNetwork) (s c : ℕ)
    → network_act N r (GivesUp s) ≡ Some next
    → next.clock c ≡ r.clock c
unfolding network_act
clock-stays N r next s c is = by_test (nat_lt s N.sessions)
    (λ y. clock-by N r next s c (give_up_refusal (r.session s)) (sym (cond-true (nat_lt s N.sessions) (after_give_up r s (give_up_refusal (r.session s))) None y) ∙ is))
    (λ o. none-some next (sym (cond-false (nat_lt s N.sessions) (after_give_up r s (give_up_refusal (r.session s))) None o) ∙ is))

pub observed-only : (N : Network) (r next : RunningNetwork) (c : ℕ) (o : Observation)
    → network_act N r (Observes c o) ≡ Some next
    → next ≡ after_observation r c o
unfolding network_act
observed-only N r next c o is = by_test (nat_lt c N.clocks)
    (λ y. sym (same_Some _ next (sym (cond-true (nat_lt c N.clocks) (Some (after_observation r c o)) None y) ∙ is)))
    (λ n. none-some next (sym (cond-false (nat_lt c N.clocks) (Some (after_observation r c o)) None n) ∙ is))

-- ---- every frame stays true

module _ (N : Network) (r : RunningNetwork) (n : IsNetwork N) (h : IsHonest N r) where
  each-honest : HoldsAfterEach N r (λ e x. IsHonest N x)
  each-honest = record {
    begins = λ t q there id fine. session-honest N r t _ h (begins-honest N r t q n h there id fine);
    sends = λ t there. sends-honest N r t n h there;
    resumes = λ t attempts there. moved-honest N r h t (λ x. resumed x attempts) there refl refl;
    retunes = λ t domain there. moved-honest N r h t (λ x. retuned x domain) there refl refl;
    delivers = λ k x e. let i = frame-true N n r h k x e in reaches-honest N n r h x x.end i.says i.end;
    replays = λ k end x e there. replayed-honest N n r h k x end e there;
    intrudes = λ c port datagram end says. turns-honest N r c port (strange_frame c port datagram) n h end says;
  }

  honest-given_up : (t : ℕ) (next : RunningNetwork) (o : Option GiveUpRefusal) → t < N.sessions → after_give_up r t o ≡ Some next → IsHonest N next
  honest-given_up t next None there is =
      subst (IsHonest N) (same_Some _ next is)
      (session-honest N r t (given_up (r.session t)) h (record { setup = (h.sessions t there).setup; asked = λ q e. absurd (cc) }))
  honest-given_up t next (Some reason) there is = absurd (cc)

  pub honest-act : (next : RunningNetwork) (x : Act) → IsPossible x → network_act N r x ≡ Some next → IsHonest N next
  unfolding network_act
  honest-act next (Happens e) i is =
      let happened = happened-as (network_event N r e) next is in
      subst (IsHonest N) happened.2 (holds_after N r (λ e x. IsHonest N x) each-honest e i happened.0 happened.1)
  honest-act next (GivesUp t) i is = by_test (nat_lt t N.sessions)
      (λ y. honest-given_up t next (give_up_refusal (r.session t)) (ltb-true t N.sessions y)
      (sym (cond-true (nat_lt t N.sessions) (after_give_up r t (give_up_refusal (r.session t))) None y) ∙ is))
      (λ o. none-some next (sym (cond-false (nat_lt t N.sessions) (after_give_up r t (give_up_refusal (r.session t))) None o) ∙ is))
  honest-act next (Observes c o) i is = by_test (nat_lt c N.clocks)
      (λ y. subst (IsHonest N) (same_Some _ next (sym (cond-true (nat_lt c N.clocks) (Some (after_observation r c o)) None y) ∙ is))
      (observed-honest N r c o h (ltb-true c N.clocks y) i))
      (λ n. none-some next (sym (cond-false (nat_lt c N.clocks) (Some (after_observation r c o)) None n) ∙ is))

pub ruleset managers_that_give_up_are_served_laws = (served-in-order, clock-stays, observed-only)
