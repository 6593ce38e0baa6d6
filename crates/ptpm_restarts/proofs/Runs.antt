-- One incident after another: what a network that never crashes does meanwhile, and the state that it
-- comes to.
use Rattle.ptpm_network.proofs.Common.{is_late_delivery, State, true≢false, arith, ◌≡◌, ℕ, ◌<◌, Bool, true, false, List, [], ◌∷◌, ◌++◌, Option, Some, None, append_assoc, append-nil, refl, sym, ◌∙◌, ap, subst, is_none, cond-true, result_err, all_weaker, AllByRecursion, Contains, Ok, Result, Report, received_of, Event, Deliver, Replay, Refusal, IsInRange, frame_at, no_room, run, step, taken, initial_state, with_place, AtSession, Network, Held, Happened, RunningNetwork, goes_on, initial_network, network_event, network_run, StandsAfter, IsWorth, NetworkState, all_append, at_place}
use Rattle.ptpm_manager.specs.declared.receiving.Received.TheVariants as received
use Rattle.ptpm_network.specs.Events.{refusal}
use Rattle.ptpm_network.proofs.Promise.{stands-event, stands-first, stands-judged}
use Rattle.ptpm_network.proofs.Reaching.{reached}
use Rattle.ptpm_network.proofs.Taking.{run-append}
use Rattle.ptpm_restarts.specs.AsIfNever.{AreSomeOf, AreTimely, Ended, IsAsIfNever, IsPossible, IsPromisedRestarting, IsSame, IsTimely, Skip, Take, is_late_in, never_crashed}
use Rattle.ptpm_restarts.specs.Incidents.{CrashClock, CrashSession, GivesUp, Happens, Observes, Incident, SaveClock, SaveSession, after_incidents, happens, incident, refused, unless}
use Rattle.ptpm_restarts.specs.Restarting.{RestartingNetwork, SessionLog, held_frames, initial_restarting, log_of, sent_or_waiting}
use Rattle.ptpm_restarts.specs.Storage.{Stored}
use Rattle.ptpm_restarts.proofs.Beside.{IsBeside, clock-crashed, clock-saved, session-crashed, session-saved, settled-as}
use Rattle.ptpm_restarts.proofs.Sent.{all-held, all_contains}
use Rattle.ptpm_restarts.proofs.Shapes.{AreSound, ByShape, by-shape, incident-sound, incident-stay}
use Rattle.ptpm_restarts.proofs.Acting.{heard-live, in_time-there, standing}
use Rattle.ptpm_restarts.proofs.Steps.{Goes, Stay, Stays, Step, among, event-step, numbered, room-there}
use Rattle.ptpm_restarts.proofs.Worth.{worth-heard, worth-step}

-- ---- all that was reported

-- each report that was made is worth what a report is in this state
abbrev pub AreWorth : Network → NetworkState → RestartingNetwork → Type 0
AreWorth N w k = (s : ℕ) → s < N.sessions → AllByRecursion (IsWorth N w s) (k.told s)

worth-later : (N : Network) (past : List Event) (e : Event) (r : RunningNetwork) (k : RestartingNetwork)
    → StandsAfter N past r → IsInRange e → AreWorth N (run N (initial_state N) past) k
    → AreWorth N (run N (initial_state N) (past ++ e ∷ [])) k
worth-later N past e r k at range worth s place =
    let w : NetworkState = run N (initial_state N) past in
    subst (λ (u : NetworkState). AllByRecursion (IsWorth N u s) (k.told s)) (sym (run-append N (initial_state N) past (e ∷ [])))
    (all_weaker (IsWorth N w s) (IsWorth N (step N w e) s)
    (λ x is. worth-step N w at.promised.network (reached N past at.promised.network at.promised.in_range) s place x is e range) (k.told s) (worth s place))

module _ (lc ls : ℕ → Bool) (N : Network) (past : List Event) (k : RestartingNetwork) (r : RunningNetwork) (h : IsBeside lc ls k r) (sound : AreSound N k) (at : StandsAfter N past r) (worth : AreWorth N (run N (initial_state N) past) k) where
  worth-turns : (c : ℕ) (x : Stored State) (made : List Held) (b : Bool)
      → AreWorth N (run N (initial_state N) past) (sent_or_waiting b (record k { clock = with_place k.clock c x }) c made)
  worth-turns c x made true = worth
  worth-turns c x made false = worth

  worth-hears : (n s : ℕ) (x : Held) (report : Report)
      → frame_at k.frames n ≡ Some x → x.end ≡ AtSession s → is_late_in k x.origin ≡ false → no_room (held_frames k) ≡ None
      → received_of (k.session s).live.session x.octets ≡ received.Answered report → s < N.sessions
      → IsWorth N (run N (initial_state N) past) s report
  worth-hears n s x report is end timely room e place =
      let m = numbered r.frames x (all_contains (Contains r.frames) k.frames x h.frames.sent (among k.frames n x is)) in
      let same = heard-live lc ls N past k r h sound at s m.0 x report place m.1 timely e in
      worth-heard N past r s m.0 x report at place m.1 end (room-there lc ls k r h room) (in_time-there lc ls N past k r h sound at m.0 x m.1 timely)
      (ap (λ (l : SessionLog). received_of l.session x.octets) same ∙ e)

  worth-shapes : ByShape N k (AreWorth N (run N (initial_state N) past))
  worth-shapes = record {
    same = worth;
    turns = worth-turns;
    begins = λ s q. worth;
    notes = λ s v a b c. worth;
    sends = λ s. worth;
    replays = λ n end x is. worth;
    hears = λ n s x report is end timely room e t.
        at_place (λ i (told : List Report). i < N.sessions → AllByRecursion (IsWorth N (run N (initial_state N) past) i) told) k.told s (k.told s ++ report ∷ []) t
        (λ place. all_append (IsWorth N (run N (initial_state N) past) s) (k.told s) (report ∷ []) (worth s place) (worth-hears n s x report is end timely room e place, tt)) (worth t);
  }

  worth-incident : (e : Event) → IsTimely N k (Happens e) → AreWorth N (run N (initial_state N) past) (incident N k (Happens e))
  worth-incident e timely = by-shape N k (AreWorth N (run N (initial_state N) past)) worth-shapes e timely

-- ---- all incidents

-- whose changes will be lost: a crash comes before the next save
abbrev pub clocks_lost : List Incident → ℕ → Bool
clocks_lost [] = λ c. false
clocks_lost (SaveClock c ∷ is) = with_place (clocks_lost is) c false
clocks_lost (CrashClock c ∷ is) = with_place (clocks_lost is) c true
clocks_lost (_ ∷ is) = clocks_lost is

abbrev pub sessions_lost : List Incident → ℕ → Bool
sessions_lost [] = λ s. false
sessions_lost (SaveSession s ∷ is) = with_place (sessions_lost is) s false
sessions_lost (CrashSession s ∷ is) = with_place (sessions_lost is) s true
sessions_lost (_ ∷ is) = sessions_lost is

-- this network has gone on by these events while that one came to its end
pub record Went (N : Network) (past : List Event) (r : RunningNetwork) (k : RestartingNetwork) (is : List Incident) (events : List Event) (network : RunningNetwork) : Type 0 where
  pub none_refused : taken N (run N (initial_state N) past) events ≡ events
  pub stands : StandsAfter N (past ++ events) network
  pub some : AreSomeOf (after_incidents N k is).frames network.frames events is
  pub here : Stay k.frames (after_incidents N k is).frames
  pub there : Stay r.frames network.frames
  pub beside : IsBeside (λ c. false) (λ s. false) (after_incidents N k is) network
  pub sound : AreSound N (after_incidents N k is)
  pub worth : AreWorth N (run N (initial_state N) (past ++ events)) (after_incidents N k is)

abbrev Goes-on : Network → List Event → RunningNetwork → RestartingNetwork → List Incident → Type 0
Goes-on N past r k is = (events : List Event) × Went N past r k is events (network_run N r events)

pub same-later : (xs ys us vs : List Held) (e f : Event) → Stay xs us → Stay ys vs → IsSame xs ys e f → IsSame us vs e f
same-later xs ys us vs (Deliver n) (Deliver m) a b (h, p, q) = (h, a n h p, b m h q)
same-later xs ys us vs (Replay n end) (Replay m other) a b (h, p, q, e) = (h, a n h p, b m h q, e)
same-later xs ys us vs _ _ a b is = is

module _ (N : Network) (past : List Event) (k : RestartingNetwork) (r : RunningNetwork) (i : Incident) (is : List Incident) (timely : IsTimely N k i) where
  -- nothing happens there
  went-nothing : Goes-on N past r (incident N k i) is → Goes-on N past r k (i ∷ is)
  went-nothing (events, w) = (
    events,
    record {
      none_refused = w.none_refused;
      stands = w.stands;
      some = Skip i events is w.some;
      here = λ n x e. w.here n x (incident-stay N k i timely n x e);
      there = w.there;
      beside = w.beside;
      sound = w.sound;
      worth = w.worth;
    },
  )

-- the same event happens there
went-event : (N : Network) (past : List Event) (k : RestartingNetwork) (r : RunningNetwork) (e f : Event) (h : Happened) (is : List Incident)
    → StandsAfter N past r → IsTimely N k (Happens e) → network_event N r f ≡ Ok h
    → IsSame k.frames r.frames e f → Stay r.frames h.network.frames
    → Goes-on N (past ++ f ∷ []) h.network (incident N k (Happens e)) is
    → Goes-on N past r k (Happens e ∷ is)
went-event N past k r e f h is at timely ok same stay (events, w) =
    let u : NetworkState = run N (initial_state N) past in
    let none : refusal N u f ≡ None = sym (stands-judged N past r f at) ∙ ap (λ (x : Result Happened Refusal). result_err x) ok in
    let on : network_run N r (f ∷ events) ≡ network_run N h.network events = ap (λ (x : Result Happened Refusal). goes_on r x (λ (next : RunningNetwork). network_run N next events)) ok in
    let rest : taken N (step N u f) events ≡ events = subst (λ (v : NetworkState). taken N v events ≡ events) (run-append N (initial_state N) past (f ∷ [])) w.none_refused in (
      f ∷ events,
      subst (Went N past r k (Happens e ∷ is) (f ∷ events)) (sym on)
          (record {
            none_refused = cond-true _ _ _ (ap is_none none) ∙ ap (λ (es : List Event). f ∷ es) rest;
            stands = subst (λ (es : List Event). StandsAfter N es (network_run N h.network events)) (append_assoc past (f ∷ []) events) w.stands;
            some = Take e f events is
                (same-later k.frames r.frames (after_incidents N (incident N k (Happens e)) is).frames (network_run N h.network events).frames e f
                (λ n x p. w.here n x (incident-stay N k (Happens e) timely n x p)) (λ n x p. w.there n x (stay n x p)) same) w.some;
            here = λ n x p. w.here n x (incident-stay N k (Happens e) timely n x p);
            there = λ n x p. w.there n x (stay n x p);
            beside = w.beside;
            sound = w.sound;
            worth = subst (λ (es : List Event). AreWorth N (run N (initial_state N) es) (after_incidents N (incident N k (Happens e)) is)) (append_assoc past (f ∷ []) events) w.worth;
          }),
    )

-- no late delivery
abbrev InTime : Network → List Event → Event → Type 0
InTime N past e = is_late_delivery (run N (initial_state N) past) e ≡ false

pub step-unless : (lc ls : ℕ → Bool) (N : Network) (Fine : Event → Type 0) (k : RestartingNetwork) (r : RunningNetwork) (e : Event) (o : Option Refusal)
    → IsBeside lc ls k r → refused N k e ≡ o
    → (refused N k e ≡ None → Step N Fine r k.frames lc ls e (happens N k e))
    → Step N Fine r k.frames lc ls e (unless o k (happens N k e))
step-unless lc ls N Fine k r e None h is go = go is
step-unless lc ls N Fine k r e (Some reason) h is go = Stays h

-- by one event, and whatever comes after it
went-by : (N : Network) (past : List Event) (k : RestartingNetwork) (r : RunningNetwork) (e : Event) (is : List Incident)
    → StandsAfter N past r → IsTimely N k (Happens e) → AreWorth N (run N (initial_state N) past) (incident N k (Happens e))
    → ((p : List Event) (x : RunningNetwork) → StandsAfter N p x → IsBeside (clocks_lost is) (sessions_lost is) (incident N k (Happens e)) x
    → AreWorth N (run N (initial_state N) p) (incident N k (Happens e)) → Goes-on N p x (incident N k (Happens e)) is)
    → Step N (InTime N past) r k.frames (clocks_lost is) (sessions_lost is) e (incident N k (Happens e))
    → Goes-on N past r k (Happens e ∷ is)
went-by N past k r e is at timely worth behind (Stays stays) = went-nothing N past k r (Happens e) is timely (behind past r at stays worth)
went-by N past k r e is at timely worth behind (Goes f next ok range late same stay goes) =
    went-event N past k r e f next is at timely ok same stay
    (behind (past ++ f ∷ []) next.network (stands-event N past r f next at range ok late) goes (worth-later N past f r (incident N k (Happens e)) at range worth))

pub went : (N : Network) (past : List Event) (k : RestartingNetwork) (r : RunningNetwork) (is : List Incident)
    → StandsAfter N past r → IsBeside (clocks_lost is) (sessions_lost is) k r → AreSound N k → AreWorth N (run N (initial_state N) past) k
    → AllByRecursion IsPossible is → AreTimely N k is
    → Goes-on N past r k is
went N past k r [] at h sound worth possible timely = (
  [],
  record {
    none_refused = refl;
    stands = subst (λ (es : List Event). StandsAfter N es r) (sym (append-nil past)) at;
    some = Ended;
    here = λ n x e. e;
    there = λ n x e. e;
    beside = h;
    sound = sound;
    worth = subst (λ (es : List Event). AreWorth N (run N (initial_state N) es) k) (sym (append-nil past)) worth;
  },
)
went N past k r (Happens e ∷ is) at h sound worth possible timely =
    went-by N past k r e is at timely.0 (worth-incident (clocks_lost is) (sessions_lost is) N past k r h sound at worth e timely.0)
    (λ p x there beside worth'. went N p (incident N k (Happens e)) x is there beside (incident-sound N k sound (Happens e) timely.0) worth' possible.1 timely.1)
    (step-unless (clocks_lost is) (sessions_lost is) N (InTime N past) k r e (refused N k e) h refl
    (λ none. event-step (clocks_lost is) (sessions_lost is) N (InTime N past) k r h (standing (clocks_lost is) (sessions_lost is) N past k r h sound at) e possible.0 (timely.0 none) none))
went N past k r (SaveClock c ∷ is) at h sound worth possible timely =
    went-nothing N past k r (SaveClock c) is tt (went N past (incident N k (SaveClock c)) r is at (clock-saved (clocks_lost is) (sessions_lost is) k r c h) (incident-sound N k sound (SaveClock c) tt) worth possible.1 timely.1)
went N past k r (SaveSession s ∷ is) at h sound worth possible timely =
    went-nothing N past k r (SaveSession s) is tt (went N past (incident N k (SaveSession s)) r is at (session-saved (clocks_lost is) (sessions_lost is) k r s h) (incident-sound N k sound (SaveSession s) tt) worth possible.1 timely.1)
went N past k r (CrashClock c ∷ is) at h sound worth possible timely =
    went-nothing N past k r (CrashClock c) is tt (went N past (incident N k (CrashClock c)) r is at (clock-crashed (clocks_lost is) (sessions_lost is) k r c h) (incident-sound N k sound (CrashClock c) tt) worth possible.1 timely.1)
went N past k r (CrashSession s ∷ is) at h sound worth possible timely =
    went-nothing N past k r (CrashSession s) is tt (went N past (incident N k (CrashSession s)) r is at (session-crashed (clocks_lost is) (sessions_lost is) k r s h) (incident-sound N k sound (CrashSession s) tt) worth possible.1 timely.1)
went N past k r (GivesUp s ∷ is) at h sound worth possible timely = absurd possible.0
went N past k r (Observes c o ∷ is) at h sound worth possible timely = absurd possible.0

-- ---- from the start

pub starts : (N : Network) (lc ls : ℕ → Bool) → IsBeside lc ls (initial_restarting N) (initial_network N)
starts N lc ls = record {
  clocks = λ c. settled-as (lc c) _ _ refl;
  sessions = λ s. settled-as (ls s) _ _ refl;
  frames = record { sent = tt; later = tt; room = omega arith };
}

pub sound-first : (N : Network) → AreSound N (initial_restarting N)
sound-first N s = record { live = refl; stored = refl; issued = omega arith; behind = λ u. absurd (true≢false (sym u)); told_live = tt; told_stored = tt }

pub as_if_never : (N : Network) (is : List Incident) → IsPromisedRestarting N is → IsAsIfNever N is (after_incidents N (initial_restarting N) is)
as_if_never N is p =
    let on = went N [] (initial_restarting N) (initial_network N) is (stands-first N p.network) (starts N (clocks_lost is) (sessions_lost is)) (sound-first N)
    (λ s place. tt) p.possible p.timely in
    let k : RestartingNetwork = after_incidents N (initial_restarting N) is in
    let end = on.1 in
    let network : RunningNetwork = never_crashed N on.0 in
    let same : (s : ℕ) → (k.session s).live ≡ log_of network s = λ s. sym (end.beside.sessions s).at in
    record {
      events = on.0;
      some = end.some;
      none_refused = end.none_refused;
      stands = end.stands;
      same = (λ i. record { clock = λ c. sym (end.beside.clocks c).at i; session = λ s. (same s i).session; reports = λ s. (same s i).reports; frames = network.frames });
      frames = all-held k.frames k.waiting network.frames end.beside.frames;
      reported = λ s. subst (λ (l : SessionLog). AllByRecursion (Contains (k.told s)) l.reports) (same s) (end.sound s).told_live;
      worth = end.worth;
    }
