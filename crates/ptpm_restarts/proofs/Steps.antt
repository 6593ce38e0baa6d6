-- What a network that never crashes does while one event happens here: nothing, or the same event.
use Rattle.ptpm_network.proofs.Common.{by_test, arith, ◌≡◌, ℕ, ◌+◌, ◌-◌, ◌<◌, ◌≤◌, ◌==◌, ◌&&◌, ◌⊎◌, Bool, true, false, List, [], ◌∷◌, ◌++◌, map, length, length-append, length-map, Option, Some, None, option_map, refl, sym, ◌∙◌, ap, subst, inl, inr, eqb-true, ltb-true, ltb-false, cond-true, cond-false, first_of-none, option_or-none, slice_get_within, slice_get, Contains, Ok, Result, result_err, State, SessionValue, Report, begun, resumed, retuned, send_refusal, sent, due_message, received_of, Event, Begin, Send, Resume, Retune, Deliver, Replay, Stranger, Refusal, IsInRange, SendRefused, forged, frame_at, no_end, no_port, no_room, no_session, strange_frame, with_place, End, AtPort, AtSession, HasEnd, Network, peers, Held, Happened, RunningNetwork, replays, held, hears, network_event, seen, sends_in, sent_posted, turn_frames, unless_refused, with_session_value, Frame, get_append, at_places, same_Some, answered, turn}
use Rattle.std.proofs.lemmas.Option.{slice_get-get_or, get_or_from_slice_get}
use Rattle.std.proofs.lemmas.List.Elements.{Contains-get_or}
use Rattle.ptpm_manager.specs.Ask as ask
use Rattle.ptpm_manager.specs.declared.receiving.Received.{Received}
use Rattle.ptpm_manager.specs.declared.receiving.Received.TheVariants as received
use Rattle.ptpm_network.specs.RunningNetwork.{Done}
use Rattle.ptpm_network.specs.RunningNetwork as running_network
use Rattle.ptpm_restarts.specs.AsIfNever.{IsSame, is_late_event, is_late_held, is_late_in}
use Rattle.ptpm_restarts.specs.Incidents.{replayed, comes_in, delivered, happens, refused}
use Rattle.ptpm_restarts.specs.Restarting.{RestartingNetwork, SessionLog, begins, held_frames, log_of, log_told, log_with, notes, running, sends, takes_turn, turned, with_log}
use Rattle.ptpm_restarts.specs.Restarting as restarting
use Rattle.ptpm_restarts.specs.Storage.{Stored, changed, noted}
use Rattle.ptpm_restarts.proofs.Beside.{IsBeside, after_clock, log-stays, turned-beside, IsAct, IsSettled, changed-act, not_both, noted-act, turn-act, turn-next}
use Rattle.ptpm_restarts.proofs.Sent.{AreSent, all_contains, going-all, sent-both}
use Rattle.ptpm_restarts.proofs.Worth.{delivers-to}

-- ---- frames by their numbers

pub numbered : {A : Type 0} (xs : List A) (x : A) → Contains xs x → (m : ℕ) × (frame_at xs m ≡ Some x)
numbered xs x (i, below, is) = let same : i + 1 - 1 ≡ i = omega arith in (i + 1, grind (arith, slice_get-get_or))

pub contains-at : {A : Type 0} (xs : List A) (i : ℕ) (x : A) → slice_get xs i ≡ Some x → Contains xs x
contains-at xs i x at = subst (Contains xs) (get_or_from_slice_get xs i x x at) (Contains-get_or xs i x (slice_get_within xs i x at))

pub among : {A : Type 0} (xs : List A) (n : ℕ) (x : A) → frame_at xs n ≡ Some x → Contains xs x
among xs n x e = by_test (n == 0)
    (λ y. absurd (cc (sym (cond-true _ _ _ y) ∙ e)))
    (λ o. contains-at xs (n - 1) x (sym (cond-false _ _ _ o) ∙ e))

-- they stay where they are
abbrev pub Stay : List Held → List Held → Type 0
Stay xs ys = (n : ℕ) (x : Held) → frame_at xs n ≡ Some x → frame_at ys n ≡ Some x

pub stay-append : (xs ys : List Held) → Stay xs (xs ++ ys)
stay-append xs ys n x e = grind (arith, cond-true, cond-false, get_append)

-- ---- reasons to refuse, one after another

pub clear : (o : Option Refusal) (x : Result Happened Refusal)
    → result_err (unless_refused o x) ≡ None
    → (o ≡ None) × (result_err x ≡ None)
clear None x e = (refl, e)
clear (Some reason) x e = absurd (cc)

pub passes : (o : Option Refusal) (x : Result Happened Refusal) → o ≡ None → unless_refused o x ≡ x
passes None x e = refl
passes (Some reason) x e = absurd (cc)

pub fewer : (xs ys : List Held) → length xs ≤ length ys → no_room ys ≡ None → no_room xs ≡ None
fewer xs ys le e = grind (arith, ltb-true, ltb-false, first_of-none)

-- ---- one event

-- a frame comes in; no other event can be late
abbrev pub is_delivery : Event → Bool
is_delivery (Deliver n) = true
is_delivery _ = false

-- What the other does while this one becomes another by an event: nothing, or this event, which is fine there.
pub data Step (N : Network) (Fine : Event → Type 0) (r : RunningNetwork) (here : List Held) (lc ls : ℕ → Bool) (e : Event) (k : RestartingNetwork) : Type 0 where
  Stays : IsBeside lc ls k r → Step N Fine r here lc ls e k
  Goes : (f : Event) (h : Happened) → network_event N r f ≡ Ok h → IsInRange f → Fine f → IsSame here r.frames e f
      → Stay r.frames h.network.frames → IsBeside lc ls k h.network → Step N Fine r here lc ls e k

-- What is known of the other. What is no delivery is fine there, and so is a delivery that is in time here. A session that takes its
-- answer here is as there.
pub record Facts (N : Network) (Fine : Event → Type 0) (k : RestartingNetwork) (r : RunningNetwork) : Type 0 where
  pub others : (e : Event) → is_delivery e ≡ false → Fine e
  pub ends : (m : ℕ) (x : Held) → frame_at r.frames m ≡ Some x → HasEnd N x.end
  pub comes_in : (m : ℕ) (x : Held) → frame_at r.frames m ≡ Some x → is_late_in k x.origin ≡ false → Fine (Deliver m)
  pub heard : (s m : ℕ) (x : Held) (report : Report) → s < N.sessions → frame_at r.frames m ≡ Some x → is_late_in k x.origin ≡ false
      → received_of (k.session s).live.session x.octets ≡ received.Answered report
      → log_of r s ≡ (k.session s).live

pub some-of : (o : Option Frame) (x : Held) → option_map held o ≡ Some x → (f : Frame) × (o ≡ Some f) × (held f ≡ x)
some-of None x e = absurd (cc)
some-of (Some f) x e = (f, refl, same_Some (held f) x e)

pub room-there : (lc ls : ℕ → Bool) (k : RestartingNetwork) (r : RunningNetwork)
    → IsBeside lc ls k r → no_room (held_frames k) ≡ None
    → no_room r.frames ≡ None
room-there lc ls k r h e = fewer r.frames (held_frames k)
    (omega (arith, h.frames.room, going-all lc k.waiting, length-append k.frames (map (λ (w : ℕ × Held). w.1) k.waiting), length-map k.waiting (λ (w : ℕ × Held). w.1))) e

module _ (lc ls : ℕ → Bool) (N : Network) (Fine : Event → Type 0) (k : RestartingNetwork) (r : RunningNetwork) (h : IsBeside lc ls k r) (facts : Facts N Fine k r) where
  abbrev Goal : Event → RestartingNetwork → Type 0
  Goal e k' = Step N Fine r k.frames lc ls e k'

  -- ---- sessions

  pub logged : (s : ℕ) (x : Stored SessionLog) (y : SessionLog) (here there' : List Held) (told : ℕ → List Report) (session : ℕ → SessionValue) (reports : ℕ → List Report)
      → IsSettled (ls s) x y
      → ((t : ℕ) → log_of (record r { session = session; reports = reports }) t ≡ with_place (log_of r) s y t)
      → AreSent lc here k.waiting there'
      → IsBeside lc ls (record k { session = with_place k.session s x; frames = here; told = told }) (record r { session = session; reports = reports; frames = there' })
  logged s x y here there' told session reports settled is sent' = record {
    clocks = h.clocks;
    sessions = λ t. subst (IsSettled (ls t) (with_place k.session s x t)) (sym (is t))
        (at_places (λ i z a. IsSettled (ls i) z a) k.session (log_of r) s x y t settled (h.sessions t));
    frames = sent';
  }

  -- a session is another, with the reports that it had
  pub log-other : (s : ℕ) (v : SessionValue) (t : ℕ)
      → log_of r s ≡ (k.session s).live
      → log_of (record r { session = with_place r.session s v; reports = r.reports }) t ≡ with_place (log_of r) s (log_with k s v) t
  log-other s v t same = grind (arith, eqb-true)

  acts : (e : Event) (s : ℕ) (v : SessionValue) (x : Stored SessionLog)
      → IsAct (ls s) (k.session s) (log_of r s) x (log_with k s v)
      → (r.session s ≡ (k.session s).live.session → network_event N r e ≡ Ok (record { deed = Done; network = with_session_value r s v }))
      → IsInRange e → Fine e → IsSame k.frames r.frames e e
      → Goal e (with_log k s x)
  acts e s v x act ok range late same = by_test (ls s && x.is_unsaved)
      (λ y. Stays (log-stays lc ls k r s x h (act.stays y)))
      (λ n. let goes = act.goes n in
      Goes e (record { deed = Done; network = with_session_value r s v }) (ok (ap (λ (l : SessionLog). l.session) goes.0)) range late same (λ i y is. is)
      (logged s x (log_with k s v) k.frames r.frames k.told (with_place r.session s v) r.reports goes.1 (λ t. log-other s v t goes.0) h.frames))

  sends-on : (s : ℕ) (b : Bool)
      → (k.session s).is_unsaved ≡ b
      → no_session N s ≡ None → no_room r.frames ≡ None → option_map SendRefused (send_refusal (k.session s).live.session) ≡ None
      → Goal (Send s) (sends b N k s)
  unfolding network_event
  sends-on s true e exists fits due = Stays h
  sends-on s false e exists fits due =
      let act = noted-act (ls s) (k.session s) (log_of r s) (log_with k s (sent (k.session s).live.session)) (h.sessions s) in
      let goes = act.goes (not_both (ls s) (k.session s).is_unsaved e) in
      let same : r.session s ≡ (k.session s).live.session = ap (λ (l : SessionLog). l.session) goes.0 in
      let ok : network_event N r (Send s) ≡ Ok (record { deed = Done; network = sends_in N r s }) =
      passes (no_session N s) _ exists ∙ passes (no_room r.frames) _ fits ∙ passes (option_map SendRefused (send_refusal (r.session s))) _ (ap (λ (v : SessionValue). option_map SendRefused (send_refusal v)) same ∙ due) in
      let made : SessionValue → List Held = λ v. sent_posted (peers N.links (AtSession s)) s v.issued (due_message v) in
      Goes (Send s) (record { deed = Done; network = sends_in N r s }) ok tt (facts.others (Send s) refl) refl (stay-append r.frames (made (r.session s)))
      (subst (λ (v : SessionValue). IsBeside lc ls (sends false N k s) (record r { session = with_place r.session s (sent v); frames = r.frames ++ made v })) (sym same)
      (logged s (noted (k.session s) (log_with k s (sent (k.session s).live.session))) (log_with k s (sent (k.session s).live.session))
      (k.frames ++ made (k.session s).live.session) (r.frames ++ made (k.session s).live.session) k.told (with_place r.session s (sent (k.session s).live.session)) r.reports
      goes.1 (λ t. log-other s (sent (k.session s).live.session) t goes.0) (sent-both lc k.frames k.waiting r.frames (made (k.session s).live.session) h.frames)))

  -- ---- a frame comes in

  takes-on : (c port : ℕ) (f : Frame) (e g : Event) (next : State) (made : List Held) (k' : RestartingNetwork)
      → next ≡ (turn (N.clock c) (k.clock c).live port f.octets).next → made ≡ map held (turn_frames N (k.clock c).live c port f)
      → network_event N r g ≡ Ok (running_network.takes_turn N r c port f) → IsInRange g → Fine g → IsSame k.frames r.frames e g
      → IsBeside lc ls k' r ⊎ ((r.clock c ≡ (k.clock c).live) × IsBeside lc ls k' (after_clock lc ls k r c next made))
      → Goal e k'
  takes-on c port f e g next made k' n m ok range late same (inl stays) = Stays stays
  takes-on c port f e g next made k' n m ok range late same (inr (live, goes)) =
      let as_live : IsBeside lc ls k' (after_clock lc ls k r c (turn (N.clock c) (k.clock c).live port f.octets).next (map held (turn_frames N (k.clock c).live c port f))) =
      subst (λ (fs : List Held). IsBeside lc ls k' (after_clock lc ls k r c (turn (N.clock c) (k.clock c).live port f.octets).next fs)) m
      (subst (λ (s : State). IsBeside lc ls k' (after_clock lc ls k r c s made)) n goes) in
      Goes g (running_network.takes_turn N r c port f) ok range late same (stay-append r.frames _)
      (subst (λ (s : State). IsBeside lc ls k' (after_clock lc ls k r c (turn (N.clock c) s port f.octets).next (map held (turn_frames N s c port f)))) (sym live) as_live)

  takes : (c port : ℕ) (f : Frame) (e g : Event)
      → network_event N r g ≡ Ok (running_network.takes_turn N r c port f) → IsInRange g → Fine g → IsSame k.frames r.frames e g
      → Goal e (takes_turn N k c port f)
  takes c port f e g ok range late same =
      takes-on c port f e g (turn (N.clock c) (k.clock c).live port f.octets).next (map held (turn_frames N (k.clock c).live c port f)) (takes_turn N k c port f) refl refl ok range late same
      (turned-beside lc ls k r c _ _ _ h
      (turn-act (turn (N.clock c) (k.clock c).live port f.octets).verdict (lc c) (k.clock c) (r.clock c) (turn (N.clock c) (k.clock c).live port f.octets).next (h.clocks c)
      (turn-next (N.clock c) (k.clock c).live port f.octets)))

  log-heard : (s : ℕ) (report : Report) (t : ℕ)
      → log_of r s ≡ (k.session s).live
      → log_of (hears r s (received.Answered report)) t ≡ with_place (log_of r) s (log_told (k.session s).live report) t
  log-heard s report t same = grind (arith, eqb-true)

  hears-as : (n m s : ℕ) (x : Held) (y : Received)
      → frame_at k.frames n ≡ Some x → frame_at r.frames m ≡ Some x → x.end ≡ AtSession s
      → no_room r.frames ≡ None → is_late_in k x.origin ≡ false
      → received_of (k.session s).live.session x.octets ≡ y
      → Goal (Deliver n) (restarting.hears k s y)
  hears-as n m s x (received.Ignored reason) here' there' end fits timely e = Stays h
  hears-as n m s x (received.Answered report) here' there' end fits timely e =
      let place : s < N.sessions = subst (HasEnd N) end (facts.ends m x there') in
      let same = facts.heard s m x report place there' timely e in
      let told : ℕ → List Report = with_place k.told s (k.told s ++ report ∷ []) in
      let act = changed-act (ls s) (k.session s) (log_of r s) (log_told (k.session s).live report) (h.sessions s) in
      let z : Stored SessionLog = changed (k.session s) (log_told (k.session s).live report) in
      by_test (ls s && true)
      (λ y. let stays = log-stays lc ls k r s z h (act.stays y) in
      Stays (record { clocks = stays.clocks; sessions = stays.sessions; frames = stays.frames }))
      (λ o. let as_there : received_of (r.session s) x.octets ≡ received.Answered report = ap (λ (l : SessionLog). received_of l.session x.octets) same ∙ e in
      let next : Happened = record { deed = running_network.Heard (received.Answered report); network = hears r s (received.Answered report) } in
      Goes (Deliver m) next
      (delivers-to N r m x (AtSession s) there' end fits ∙ ap (λ (q : Received). Ok (record { deed = running_network.Heard q; network = hears r s q })) as_there)
      tt (facts.comes_in m x there' timely) (x, here', there') (λ i w is. is)
      (logged s z (log_told (k.session s).live report) k.frames r.frames told (with_place r.session s (answered (r.session s))) (with_place r.reports s (r.reports s ++ report ∷ []))
      (act.goes o).1 (λ t. log-heard s report t same) h.frames))

  comes : (n m : ℕ) (x : Held) (e : End)
      → frame_at k.frames n ≡ Some x → frame_at r.frames m ≡ Some x → x.end ≡ e
      → no_room r.frames ≡ None → is_late_in k x.origin ≡ false
      → Goal (Deliver n) (comes_in N k x e)
  comes n m x (AtPort c port) here' there' end fits timely =
      takes c port (seen x) (Deliver n) (Deliver m) (delivers-to N r m x (AtPort c port) there' end fits) tt (facts.comes_in m x there' timely) (x, here', there')
  comes n m x (AtSession s) here' there' end fits timely = hears-as n m s x (received_of (k.session s).live.session x.octets) here' there' end fits timely refl

  came : (n : ℕ) (q : Option Held)
      → frame_at k.frames n ≡ q → no_room r.frames ≡ None → is_late_held k q ≡ false
      → Goal (Deliver n) (delivered N k q)
  came n None is fits timely = Stays h
  came n (Some x) is fits timely =
      let m = numbered r.frames x (all_contains (Contains r.frames) k.frames x h.frames.sent (among k.frames n x is)) in
      comes n m.0 x x.end is m.1 refl fits timely

  -- ---- a frame is replayed

  replays-on : (n : ℕ) (end : End) (q : Option Held)
      → frame_at k.frames n ≡ q → result_err (replays N (running k) q end) ≡ None → no_room r.frames ≡ None
      → Goal (Replay n end) (replayed k q end)
  unfolding network_event
  replays-on n end None is none fits = Stays h
  replays-on n end (Some x) is none fits =
      let m = numbered r.frames x (all_contains (Contains r.frames) k.frames x h.frames.sent (among k.frames n x is)) in
      let made : List Held = record x { end = end } ∷ [] in
      let exists : no_end N end ≡ None = (clear (no_end N end) _ none).0 in
      Goes (Replay m.0 end) (record { deed = Done; network = record r { frames = r.frames ++ made } })
      (ap (λ (o : Option Held). replays N r o end) m.1 ∙ passes (no_end N end) _ exists ∙ passes (no_room r.frames) _ fits)
      tt (facts.others (Replay m.0 end) refl) (x, is, m.1, refl) (stay-append r.frames made)
      (record { clocks = h.clocks; sessions = h.sessions; frames = sent-both lc k.frames k.waiting r.frames made h.frames })

  -- ---- any event

  pub event-step : (e : Event)
      → IsInRange e → is_late_event k e ≡ false → refused N k e ≡ None
      → Goal e (happens N k e)
  unfolding network_event
  event-step (Begin s a) range timely none =
      acts (Begin s a) s (begun (k.session s).live.session (ask.request_of a)) _ (changed-act (ls s) (k.session s) (log_of r s) _ (h.sessions s))
      (λ same. grind (arith, clear, passes, option_or-none)) range (facts.others _ refl) refl
  event-step (Send s) range timely none =
      let all = option_or-none _ (no_room (held_frames k)) none in
      let one = clear (no_session N s) _ all.0 in
      let two = clear (no_room k.frames) _ one.1 in
      let three = clear (option_map SendRefused (send_refusal (k.session s).live.session)) _ two.1 in
      sends-on s (k.session s).is_unsaved refl one.0 (room-there lc ls k r h all.1) three.0
  event-step (Resume s attempts) range timely none =
      acts (Resume s attempts) s (resumed (k.session s).live.session attempts) _ (noted-act (ls s) (k.session s) (log_of r s) _ (h.sessions s))
      (λ same. grind (arith, clear, passes, option_or-none)) range (facts.others _ refl) refl
  event-step (Retune s domain) range timely none =
      acts (Retune s domain) s (retuned (k.session s).live.session domain) _ (noted-act (ls s) (k.session s) (log_of r s) _ (h.sessions s))
      (λ same. grind (arith, clear, passes, option_or-none)) range (facts.others _ refl) refl
  event-step (Deliver n) range timely none = came n (frame_at k.frames n) refl (room-there lc ls k r h (option_or-none _ (no_room (held_frames k)) none).1) timely
  event-step (Replay n end) range timely none =
      let all = option_or-none _ (no_room (held_frames k)) none in
      replays-on n end (frame_at k.frames n) refl all.0 (room-there lc ls k r h all.1)
  event-step (Stranger c port datagram) range timely none =
      let all = option_or-none _ (no_room (held_frames k)) none in
      let one = clear (no_port N c port) _ all.0 in
      let two = clear (forged N datagram) _ one.1 in
      takes c port (strange_frame c port datagram) (Stranger c port datagram) (Stranger c port datagram)
      (passes (no_port N c port) _ one.0 ∙ passes (forged N datagram) _ two.0 ∙ passes (no_room r.frames) _ (room-there lc ls k r h all.1))
      range (facts.others (Stranger c port datagram) refl) refl
