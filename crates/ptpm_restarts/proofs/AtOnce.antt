-- If no frame waits and each change is saved at once, an event does what it does in a network that runs.
use Rattle.ptpm_network.proofs.Common.{arith, nat_lt, lt-ltb, ◌≡◌, ℕ, ◌<◌, Bool, true, false, not, List, [], ◌∷◌, ◌++◌, map, append-nil, Option, Some, None, option_map, option_or, refl, sym, ◌∙◌, ap, subst, true≢false, eqb-true, eq-eqb, cond-true, first_of, Ok, Err, Result, result_err, State, Verdict, SessionValue, Report, begin_refusal, resumed, retuned, send_refusal, sent, received_of, is_waiting, Event, Begin, Send, Resume, Retune, Deliver, Replay, Stranger, Refusal, BeginRefused, SendRefused, forged, frame_at, no_end, no_port, no_room, no_session, strange_frame, with_place, at_place, End, AtPort, AtSession, Network, Held, Happened, Frame, RunningNetwork, after_turn, replays, delivers, hears, network_event, nothing_to_resume, reaches, seen, sends_in, unless_refused, with_session_value}
use Rattle.ptpm_data.specs.Members.{DataSetsValue, IsConsistent}
use Rattle.ptpm_data.specs.Observation.{observed}
use Rattle.ptpm_data.specs.ObservationBack.{Observation, clock_observation, observed_each, port_observation}
use Rattle.ptpm_data.proofs.ObservingBack.{observed_back}
use Rattle.ptpm_agent.specs.Observing.{moved_state}
use Rattle.ptpm_manager.specs.declared.error.SendError.TheVariants as send_errors
use Rattle.ptpm_manager.specs.declared.receiving.Received.{Received}
use Rattle.ptpm_manager.specs.declared.receiving.Received.TheVariants as received
use Rattle.ptpm_agent.specs.declared.verdict.Verdict.TheVariants as verdicts
use Rattle.ptpm_network.proofs.Worth.{session-named}
use Rattle.ptpm_restarts.specs.GoingOn.{IsCalm, save_at, save_due, save_of_frame}
use Rattle.ptpm_restarts.specs.Incidents.{CrashClock, CrashSession, Happens, Observes, SaveSession, after_incidents, replayed, comes_in, crashes_clock, delivered, happens, incident, refused, saves_clock, unless}
use Rattle.ptpm_restarts.specs.Restarting as restarting
use Rattle.ptpm_restarts.specs.Restarting.{RestartingNetwork, SessionLog, after_verdict, held_frames, log_of, log_told, log_with, running, sent_or_waiting, takes_turn, waiting_at, waiting_elsewhere, with_log}
use Rattle.ptpm_restarts.specs.Storage.{Stored, changed, noted, restored, saved, saved_as}
use Rattle.ptpm_restarts.proofs.Beside.{here, NextIs, turn-next}

-- ---- networks that run alike

pub same-running : (k : RestartingNetwork) (r : RunningNetwork)
    → ((c : ℕ) → (k.clock c).live ≡ r.clock c) → ((s : ℕ) → (k.session s).live ≡ log_of r s) → k.frames ≡ r.frames
    → running k ≡ r
same-running k r clocks sessions frames = (λ i. record {
  clock = λ c. clocks c i;
  session = λ s. (sessions s i).session;
  reports = λ s. (sessions s i).reports;
  frames = frames i;
})

-- ---- reasons to refuse

-- a reason that is looked for already adds none
again : (o : Option Refusal) (x : Result Happened Refusal) (q : Option Refusal)
    → option_or (result_err x) q ≡ result_err x
    → option_or (result_err (unless_refused o x)) q ≡ result_err (unless_refused o x)
again None x q e = e
again (Some reason) x q e = refl

at-room : (q : Option Refusal) (x : Result Happened Refusal) → option_or (result_err (unless_refused q x)) q ≡ result_err (unless_refused q x)
at-room (Some reason) x = refl
at-room None (Ok h) = refl
at-room None (Err reason) = refl

pub no-more : (o : Option Refusal) → option_or o None ≡ o
no-more None = refl
no-more (Some reason) = refl

by-frame : (N : Network) (r : RunningNetwork) (q : Option Held) → option_or (result_err (delivers N r q)) (no_room r.frames) ≡ result_err (delivers N r q)
by-frame N r None = refl
by-frame N r (Some x) = at-room (no_room r.frames) (Ok (reaches N r x x.end))

by-replayed : (N : Network) (r : RunningNetwork) (q : Option Held) (end : End)
    → option_or (result_err (replays N r q end)) (no_room r.frames) ≡ result_err (replays N r q end)
by-replayed N r None end = refl
by-replayed N r (Some x) end = again (no_end N end) _ _ (at-room (no_room r.frames) _)

module _ (N : Network) (k : RestartingNetwork) (calm : k.waiting ≡ []) where
  pub held-sent : held_frames k ≡ k.frames
  held-sent = ap (λ (ws : List (ℕ × Held)). k.frames ++ map (λ (w : ℕ × Held). w.1) ws) calm ∙ append-nil k.frames

  as-sent : (e : Event) → option_or (result_err (network_event N (running k) e)) (no_room k.frames) ≡ result_err (network_event N (running k) e)
      → option_or (result_err (network_event N (running k) e)) (no_room (held_frames k)) ≡ result_err (network_event N (running k) e)
  as-sent e h = ap (λ (fs : List Held). option_or (result_err (network_event N (running k) e)) (no_room fs)) held-sent ∙ h

  pub refused-as : (e : Event) → refused N k e ≡ result_err (network_event N (running k) e)
  unfolding network_event
  refused-as (Begin s a) = no-more _
  refused-as (Send s) = as-sent (Send s) (again (no_session N s) _ _ (at-room (no_room k.frames) _))
  refused-as (Resume s attempts) = no-more _
  refused-as (Retune s domain) = no-more _
  refused-as (Deliver n) = as-sent (Deliver n) (by-frame N (running k) (frame_at k.frames n))
  refused-as (Replay n end) = as-sent (Replay n end) (by-replayed N (running k) (frame_at k.frames n) end)
  refused-as (Stranger c port datagram) = as-sent (Stranger c port datagram) (again (no_port N c port) _ _ (again (forged N datagram) _ _ (at-room (no_room k.frames) _)))

-- ---- a turn, and the save after it

pub at-own : (c : ℕ) (made : List Held) → waiting_at c (map (λ m. (c, m)) made) ≡ made
at-own c [] = refl
at-own c (m ∷ made) = rw (eq-eqb c c refl) (ap (λ (fs : List Held). m ∷ fs) (at-own c made))

pub elsewhere-own : (c : ℕ) (made : List Held) → waiting_elsewhere c (map (λ m. (c, m)) made) ≡ []
elsewhere-own c [] = refl
elsewhere-own c (m ∷ made) = rw (eq-eqb c c refl) (elsewhere-own c made)

verdict-live : (v : Verdict) (x : Stored State) (next : State) → NextIs v x.live next → (after_verdict v x next).live ≡ next
verdict-live verdicts.AnsweredNew x next e = refl
verdict-live _ x next e = sym e

-- one place has another value, and that is saved
saved-live : {A : Type 0} (f : ℕ → Stored A) (i : ℕ) (x : Stored A) (a : A) (j : ℕ)
    → x.live ≡ a
    → (with_place (with_place f i x) i (saved (with_place f i x i)) j).live ≡ with_place (λ l. (f l).live) i a j
saved-live f i x a j e = grind (arith, eqb-true, eq-eqb)

saved-closed : {A : Type 0} (f : ℕ → Stored A) (i : ℕ) (x : Stored A) (j : ℕ)
    → ((l : ℕ) → (f l).is_unsaved ≡ false)
    → (with_place (with_place f i x) i (saved (with_place f i x i)) j).is_unsaved ≡ false
saved-closed f i x j all = grind (arith, eqb-true, eq-eqb)

-- it runs as this network, no frame waits, and if no session had a change that was unsaved none has
pub record Is (k next : RestartingNetwork) (r : RunningNetwork) : Type 0 where
  pub running : running next ≡ r
  pub waiting : next.waiting ≡ []
  pub closed : ((s : ℕ) → (k.session s).is_unsaved ≡ false) → (s : ℕ) → (next.session s).is_unsaved ≡ false

module _ (N : Network) (k : RestartingNetwork) (calm : k.waiting ≡ []) where
  turned-once : (b : Bool) (c : ℕ) (x : Stored State) (next : State) (made : List Held)
      → x.live ≡ next
      → Is k (saves_clock (sent_or_waiting b (record k { clock = with_place k.clock c x }) c made) c)
      (record (running k) { clock = with_place (λ d. (k.clock d).live) c next; frames = k.frames ++ made })
  turned-once true c x next made e =
      let end : RestartingNetwork = saves_clock (sent_or_waiting true (record k { clock = with_place k.clock c x }) c made) c in
      let waits : k.waiting ++ map (λ m. (c, m)) made ≡ map (λ m. (c, m)) made = ap (λ (ws : List (ℕ × Held)). ws ++ map (λ m. (c, m)) made) calm in
      record {
        running = same-running end _ (λ d. saved-live k.clock c x next d e) (λ s. refl)
            (ap (λ (ws : List (ℕ × Held)). k.frames ++ waiting_at c ws) waits ∙ ap (λ (fs : List Held). k.frames ++ fs) (at-own c made));
        waiting = ap (waiting_elsewhere c) waits ∙ elsewhere-own c made;
        closed = λ all s. all s;
      }
  turned-once false c x next made e = record {
    running = same-running (saves_clock (sent_or_waiting false (record k { clock = with_place k.clock c x }) c made) c) _ (λ d. saved-live k.clock c x next d e) (λ s. refl)
        (ap (λ (ws : List (ℕ × Held)). (k.frames ++ made) ++ waiting_at c ws) calm ∙ append-nil (k.frames ++ made));
    waiting = ap (waiting_elsewhere c) calm;
    closed = λ all s. all s;
  }

  pub takes-once : (c port : ℕ) (f : Frame) → Is k (saves_clock (takes_turn N k c port f) c) (after_turn N (running k) c port f)
  takes-once c port f = turned-once _ c _ _ _ (verdict-live _ (k.clock c) _ (turn-next (N.clock c) (k.clock c).live port f.octets))

  -- a session changes, and saves that
  changes-once : (s : ℕ) (y : SessionLog) (told : ℕ → List Report) (r : RunningNetwork)
      → ((c : ℕ) → (k.clock c).live ≡ r.clock c) → ((t : ℕ) → with_place (λ l. (k.session l).live) s y t ≡ log_of r t) → k.frames ≡ r.frames
      → Is k (incident N (record (with_log k s (changed (k.session s) y)) { told = told }) (SaveSession s)) r
  changes-once s y told r clocks sessions frames = record {
    running = same-running (incident N (record (with_log k s (changed (k.session s) y)) { told = told }) (SaveSession s)) r clocks (λ t. saved-live k.session s (changed (k.session s) y) y t refl ∙ sessions t) frames;
    waiting = calm;
    closed = λ all t. saved-closed k.session s (changed (k.session s) y) t all;
  }

  -- what a session notes is as it is live
  notes-once : (s : ℕ) (y : SessionLog) (frames : List Held) (r : RunningNetwork)
      → ((c : ℕ) → (k.clock c).live ≡ r.clock c) → ((t : ℕ) → with_place (λ l. (k.session l).live) s y t ≡ log_of r t) → frames ≡ r.frames
      → Is k (record (with_log k s (noted (k.session s) y)) { frames = frames }) r
  notes-once s y frames r clocks sessions same = record {
    running = same-running (record (with_log k s (noted (k.session s) y)) { frames = frames }) r clocks (λ t. noted-live t ∙ sessions t) same;
    waiting = calm;
    closed = λ all t. at_place (λ l (z : Stored SessionLog). z.is_unsaved ≡ false) k.session s (noted (k.session s) y) t (all s) (all t);
  }
    where
      noted-live : (t : ℕ) → (with_place k.session s (noted (k.session s) y) t).live ≡ with_place (λ l. (k.session l).live) s y t
      noted-live t = grind (arith, eqb-true)

  -- in a network that runs, if a session is another with the reports that it has, or with more
  log-other : (s : ℕ) (v : SessionValue) (t : ℕ) → with_place (λ l. (k.session l).live) s (log_with k s v) t ≡ log_of (with_session_value (running k) s v) t
  log-other s v t = grind (arith, eqb-true)

  log-heard : (s : ℕ) (report : Report) (t : ℕ)
      → with_place (λ l. (k.session l).live) s (log_told (k.session s).live report) t ≡ log_of (hears (running k) s (received.Answered report)) t
  log-heard s report t = grind (arith, eqb-true)

  hears-once : (s : ℕ) (y : Received) → Is k (incident N (restarting.hears k s y) (SaveSession s)) (hears (running k) s y)
  hears-once s (received.Answered report) = changes-once s (log_told (k.session s).live report) _ _ (λ c. refl) (log-heard s report) refl
  hears-once s (received.Ignored reason) = record {
    running = same-running (incident N k (SaveSession s)) (running k) (λ c. refl) (λ t. at_place (λ l (z : Stored SessionLog). z.live ≡ (k.session l).live) k.session s (saved (k.session s)) t refl refl) refl;
    waiting = calm;
    closed = λ all t. at_place (λ l (z : Stored SessionLog). z.is_unsaved ≡ false) k.session s (saved (k.session s)) t refl (all t);
  }

  pub comes-once : (x : Held) (e : End) → Is k (incident N (comes_in N k x e) (save_at e)) (reaches N (running k) x e).network
  comes-once x (AtPort c port) = takes-once c port (seen x)
  comes-once x (AtSession s) = hears-once s (received_of (k.session s).live.session x.octets)

  pub sends-once : (s : ℕ) (b : Bool) → b ≡ false → Is k (restarting.sends b N k s) (sends_in N (running k) s)
  sends-once s true e = absurd (true≢false e)
  sends-once s false e = notes-once s (log_with k s (sent (k.session s).live.session)) _ _ (λ c. refl) (log-other s (sent (k.session s).live.session)) refl

-- ---- any event, and the save that it makes due

-- what happened if no reason to refuse holds
cleared : (o : Option Refusal) (x : Result Happened Refusal) (h : Happened) → unless_refused o x ≡ Ok h → x ≡ Ok h
cleared None x h e = e
cleared (Some reason) x h e = absurd (cc)

network-of : (x : Result Happened Refusal) (g h : Happened) → x ≡ Ok g → x ≡ Ok h → g.network ≡ h.network
network-of x g h e f = let same : g ≡ h = cc in ap (λ (y : Happened). y.network) same

pub unless-none : (o : Option Refusal) (k next : RestartingNetwork) → o ≡ None → unless o k next ≡ next
unless-none None k next e = refl
unless-none (Some reason) k next e = absurd (cc)

module _ (N : Network) (k : RestartingNetwork) (calm : IsCalm k) where
  abbrev Once : Event → Happened → Type 0
  Once e h = Is k (after_incidents N (happens N k e) (save_due k e)) h.network

  frame-once : (q : Option Held) (h : Happened)
      → delivers N (running k) q ≡ Ok h
      → Is k (after_incidents N (delivered N k q) (save_of_frame q)) h.network
  frame-once None h e = absurd (cc)
  frame-once (Some x) h e =
      subst (Is k _) (network-of _ _ h refl (cleared (no_room k.frames) _ h e)) (comes-once N k calm.waiting x x.end)

  replayed-once : (q : Option Held) (end : End) (h : Happened)
      → replays N (running k) q end ≡ Ok h
      → Is k (replayed k q end) h.network
  replayed-once None end h e = absurd (cc)
  replayed-once (Some x) end h e =
      let next : RestartingNetwork = record k { frames = k.frames ++ record x { end = end } ∷ [] } in
      subst (Is k _) (network-of _ _ h refl (cleared (no_room k.frames) _ h (cleared (no_end N end) _ h e)))
      (record { running = same-running next (running next) (λ c. refl) (λ s. refl) refl; waiting = calm.waiting; closed = λ all s. all s })

  once : (e : Event) (h : Happened) → network_event N (running k) e ≡ Ok h → Once e h
  unfolding network_event
  once (Begin s a) h e =
      subst (Is k _) (network-of _ _ h refl (cleared (option_map BeginRefused (begin_refusal (k.session s).live.session a)) _ h (cleared (no_session N s) _ h e)))
      (changes-once N k calm.waiting s _ k.told _ (λ c. refl) (log-other N k calm.waiting s _) refl)
  once (Send s) h e =
      subst (Is k _) (network-of _ _ h refl (cleared (option_map SendRefused (send_refusal (k.session s).live.session)) _ h (cleared (no_room k.frames) _ h (cleared (no_session N s) _ h e))))
      (sends-once N k calm.waiting s (k.session s).is_unsaved (calm.sessions s))
  once (Resume s attempts) h e =
      subst (Is k _) (network-of _ _ h refl (cleared (nothing_to_resume (k.session s).live.session) _ h (cleared (no_session N s) _ h e)))
      (notes-once N k calm.waiting s _ k.frames _ (λ c. refl) (log-other N k calm.waiting s _) refl)
  once (Retune s domain) h e =
      subst (Is k _) (network-of _ _ h refl (cleared (no_session N s) _ h e)) (notes-once N k calm.waiting s _ k.frames _ (λ c. refl) (log-other N k calm.waiting s _) refl)
  once (Deliver n) h e = frame-once (frame_at k.frames n) h e
  once (Replay n end) h e = replayed-once (frame_at k.frames n) end h e
  once (Stranger c port datagram) h e =
      subst (Is k _) (network-of _ _ h refl (cleared (no_room k.frames) _ h (cleared (forged N datagram) _ h (cleared (no_port N c port) _ h e))))
      (takes-once N k calm.waiting c port (strange_frame c port datagram))

  pub saved-at-once : (e : Event) (h : Happened)
      → network_event N (running k) e ≡ Ok h
      → (running (after_incidents N k (Happens e ∷ save_due k e)) ≡ h.network) × IsCalm (after_incidents N k (Happens e ∷ save_due k e))
  saved-at-once e h ok =
      let none : refused N k e ≡ None = refused-as N k calm.waiting e ∙ ap (λ (x : Result Happened Refusal). result_err x) ok in
      let is : Is k (after_incidents N k (Happens e ∷ save_due k e)) h.network =
      subst (λ (j : RestartingNetwork). Is k (after_incidents N j (save_due k e)) h.network) (sym (unless-none (refused N k e) k (happens N k e) none)) (once e h ok) in
      (is.running, record { waiting = is.waiting; sessions = is.closed calm.sessions })

-- ---- a session that is started again

pub not-refused : (o : Option Refusal) (x : Result Happened Refusal) → o ≡ None → result_err (unless_refused o x) ≡ result_err x
not-refused None x e = refl
not-refused (Some reason) x e = absurd (cc)

-- it is in this domain
pub starts-in : (N : Network) (k : RestartingNetwork) (s domain : ℕ)
    → s < N.sessions
    → (after_incidents N k (CrashSession s ∷ Happens (Retune s domain) ∷ [])).session s
    ≡ saved_as (record ((k.session s).stored) { session = retuned (k.session s).stored.session domain })
unfolding network_event
starts-in N k s domain place =
    let one : RestartingNetwork = with_log k s (restored (k.session s)) in
    let none : refused N one (Retune s domain) ≡ None = no-more (result_err (network_event N (running one) (Retune s domain))) ∙ not-refused (no_session N s) _ (session-named N s place) in
    ap (λ (j : RestartingNetwork). j.session s) (unless-none (refused N one (Retune s domain)) one _ none) ∙ here one.session s _
    ∙ ap (λ (x : Stored SessionLog). noted x (record (x.live) { session = retuned x.live.session domain })) (here k.session s (restored (k.session s)))

-- and, if a request is under way, may send it as often
pub starts-with : (N : Network) (k : RestartingNetwork) (s domain attempts : ℕ)
    → s < N.sessions → is_waiting (k.session s).stored.session ≡ true
    → (after_incidents N k (CrashSession s ∷ Happens (Retune s domain) ∷ Happens (Resume s attempts) ∷ [])).session s
    ≡ saved_as (record ((k.session s).stored) { session = resumed (retuned (k.session s).stored.session domain) attempts })
unfolding network_event
starts-with N k s domain attempts place waits =
    let two : RestartingNetwork = after_incidents N k (CrashSession s ∷ Happens (Retune s domain) ∷ []) in
    let is = starts-in N k s domain place in
    let due : nothing_to_resume (two.session s).live.session ≡ None =
    ap (λ (x : Stored SessionLog). nothing_to_resume x.live.session) is ∙ ap (λ (b : Bool). first_of ((not b, SendRefused send_errors.Idle) ∷ [])) waits in
    let none : refused N two (Resume s attempts) ≡ None = no-more (result_err (network_event N (running two) (Resume s attempts)))
    ∙ not-refused (no_session N s) _ (session-named N s place) ∙ not-refused (nothing_to_resume (two.session s).live.session) _ due in
    ap (λ (j : RestartingNetwork). j.session s) (unless-none (refused N two (Resume s attempts)) two _ none) ∙ here two.session s _
    ∙ ap (λ (x : Stored SessionLog). noted x (record (x.live) { session = resumed x.live.session attempts })) is

-- and a clock, with what was observed when it saved
pub starts-observed : (N : Network) (k : RestartingNetwork) (c : ℕ) (d : DataSetsValue) (os : List Observation)
    → c < N.clocks → IsConsistent d → (k.clock c).stored.sets ≡ observed_each os d
    → (after_incidents N k (CrashClock c ∷ Observes c (record { clock = clock_observation d; ports = map port_observation d.ports }) ∷ [])).clock c
    ≡ saved_as (record { sets = d; entries = (k.clock c).stored.entries })
starts-observed N k c d os place consistent is =
    let one : RestartingNetwork = crashes_clock k c in
    let o : Observation = record { clock = clock_observation d; ports = map port_observation d.ports } in
    let moved : Stored State = noted (one.clock c) (moved_state o.clock o.ports (one.clock c).live) in
    ap (λ (j : RestartingNetwork). j.clock c) (cond-true (nat_lt c N.clocks) (record one { clock = with_place one.clock c moved }) one (lt-ltb c N.clocks place))
    ∙ here one.clock c moved
    ∙ ap (λ (x : Stored State). noted x (moved_state o.clock o.ports x.live)) (here k.clock c (restored (k.clock c)))
    ∙ ap (λ (sets : DataSetsValue). saved_as {A = State} (record { sets = sets; entries = (k.clock c).stored.entries }))
    (ap (observed o.clock o.ports) is ∙ observed_back os d consistent)
