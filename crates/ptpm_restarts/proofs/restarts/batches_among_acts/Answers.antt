-- A network whose clocks go on while they are being saved is as one that saves before it answers, after the incidents that are said.
use Rattle.ptpm_network.proofs.Common.{by_test, arith, all_append, all_weaker, AllByRecursion, le_trans, zero, suc, nat_lt, ltb-true, if◌then◌else◌, ◌≡◌, ℕ, ◌+◌, ◌≤◌, ◌==◌, ◌||◌, Bool, true, false, true≢false, List, [], ◌∷◌, ◌++◌, take, drop, map, map-append, length, length-append, length-map, append-nil, append_assoc, Option, Some, None, same_Some, refl, sym, ◌∙◌, ap, subst, cond-true, cond-false, option_or, option_or-none, Ok, Result, result_err, Happened, State, turn, Verdict, received_of, Event, Begin, Send, Resume, Retune, Deliver, Replay, Stranger, Refusal, forged, frame_at, no_port, no_room, network_event, strange_frame, with_place, with_place-same, with_place-other, at_place, at_places, AtPort, AtSession, End, Network, Held, held, seen, turn_frames, changed_by-sized, Clock, DataSetsValue, IsInRange, IsNetwork, judged, Message, request_of}
use Rattle.ptpm_data.specs.ObservationBack.{Observation}
use Rattle.ptpm_data.specs.ObservationLaws.{IsSizedObservation}
use Rattle.ptpm_data.specs.RequestLaws.{IsSized}
use Rattle.ptpm_data.proofs.Observed.{observed-sized}
use Rattle.ptpm_agent.specs.Turn.{next_by}
use Rattle.ptpm_manager.specs.declared.error.GiveUpRefusal.{GiveUpRefusal}
use Rattle.ptpm_manager.specs.declared.receiving.Received.{Received}
use Rattle.ptpm_manager.specs.Session.{give_up_refusal}
use Rattle.ptpm_agent.specs.Observing.{moved_state}
use Rattle.ptpm_saved.specs.Saving.{Came, Comes, Device, Fails, Happening, IsSound, Noted, Notes, Process, Saves, Sends, after_all, happen_all, noted_each, took}
use Rattle.ptpm_saved.specs.SavingClock.{CanBe, as_observed, clock_process, is_new}
use Rattle.ptpm_saved.specs.Batching.{Batch, Call, Confirms, Handles, HoldsChanges, LosesPower, answers, as_device, calls, changes_in, comes_after, events, events_of, goes_on, holds, is_held, notes, observes, restarts_at, shown, shown_from, waits}
use Rattle.ptpm_saved.proofs.SavingLaws.{clock_sound}
use Rattle.ptpm_saved.proofs.BatchingLaws.{Can, can_call, handled, notes_of, one_call, shown-append, shown_noted, unheld, holds_changes}
use Rattle.ptpm_restarts.specs.ActsAsIfNever.{ActsAsIfNever, IsPossibleAct}
use Rattle.ptpm_restarts.specs.Batching.{AsEver, BatchIncident, BatchingNetwork, ClockInput, HasRoom, StartConsistent, after_batch_incidents, all_incidents, batch_incident, calls_at, calls_within, clock_input, happens_at, incidents_at, incidents_of, incidents_of_call, incidents_of_event, initial_batching, input_at, input_of, is_held_at, network_clock, sends_ready, shown_network, unless_refused, with_sessions_of, within, IsPossibleBatched, IsPromisedBatching}
use Rattle.ptpm_restarts.specs.Incidents.{CrashClock, CrashSession, GivesUp, Happens, Incident, Observes, SaveClock, SaveSession, after_incidents, comes_in, crashes_clock, delivered, happens, incident, lets_go, refused, replayed, unless}
use Rattle.ptpm_restarts.specs.Restarting.{RestartingNetwork, after_verdict, held_frames, initial_restarting, running, takes_turn, turned, waiting_at, waiting_elsewhere}
use Rattle.ptpm_restarts.specs.Storage.{Stored, noted, saved, saved_as}
use Rattle.ptpm_restarts.proofs.ActRuns.{acts_as_if_never}
use Rattle.ptpm_restarts.proofs.Again.{after-append}
use Rattle.ptpm_restarts.proofs.AtOnce.{at-own, elsewhere-own}
use Rattle.ptpm_restarts.proofs.Beside.{here, NextIs, turn-next}
use Rattle.ptpm_restarts.proofs.Steps.{Stay, clear, fewer, passes, stay-append}
use Rattle.ptpm_restarts.proofs.Worth.{delivers-to}
use Rattle.ptpm_agent.proofs.Turns as turns
use Rattle.ptpm_manager.specs.declared.receiving.Received.TheVariants as received
use Rattle.ptpm_agent.specs.declared.verdict.Verdict.TheVariants as verdicts
use Rattle.ptpm_saved.specs.Saving as saving
use Rattle.ptpm_saved.specs.Batching as batching
use Rattle.ptpm_network.specs.RunningNetwork as running_network
use Rattle.ptpm_restarts.specs.Batching as batches
use Rattle.ptpm_restarts.specs.Restarting as restarting
use Rattle.ptpm_restarts.proofs.restarts.batches_among_acts.Goals as goal

abbrev ClockBatch : Type 0
ClockBatch = Batch State ClockInput Observation Held

abbrev ClockDevice : Type 0
ClockDevice = Device State Held

-- ---- a clock of the network is a sound process, and holds what changes it

noted-alike : (N : Network) (c : ℕ) (os : List Observation) (s : State)
    → noted_each (network_clock N c) os s ≡ noted_each (clock_process (N.clock c)) os s
noted-alike N c [] s = refl
noted-alike N c (o ∷ os) s = noted-alike N c os (moved_state o.clock o.ports s)

network_clock-sound : (N : Network) (c : ℕ) → IsSound (network_clock N c) CanBe
network_clock-sound N c =
    let sound = clock_sound (N.clock c) in
    record {
      unchanged = λ s x same. sound.unchanged s (x.port, x.frame.octets) same;
      goes_back = λ s os can. ap (λ (t : State). (network_clock N c).noted t ((network_clock N c).back s)) (noted-alike N c os s)
          ∙ sound.goes_back s os can;
      after_can_be = λ s x can. sound.after_can_be s (x.port, x.frame.octets) can;
      noted_can_be = λ s o can. sound.noted_can_be s o can;
    }

network_clock-holds : (N : Network) (c : ℕ) → HoldsChanges (network_clock N c) (is_held_at N c)
network_clock-holds N c s x is = holds_changes (N.clock c) s (x.port, x.frame.octets) is

-- ---- what a process shows is what it saved, and what was noted since

module _ {S A N M : Type 0} (p : Process S A N M) where
  record IsNoted (b : Batch S A N M) : Type 0 where
    since : List N
    is : shown p b ≡ noted_each p since b.saved

  noted-append : (ns : List N) (n : N) (s : S) → noted_each p (ns ++ n ∷ []) s ≡ p.noted (noted_each p ns s) n
  noted-append [] n s = refl
  noted-append (m ∷ ns) n s = noted-append ns n (p.noted s m)

  one_more : (b : Batch S A N M) (n : N) (h : IsNoted b) → p.noted (shown p b) n ≡ noted_each p (h.since ++ n ∷ []) b.saved
  one_more b n h = ap (λ (s : S). p.noted s n) h.is ∙ sym (noted-append h.since n b.saved)

  or_left-false : (a b : Bool) → (a || b) ≡ false → a ≡ false
  or_left-false true b e = e
  or_left-false false b e = refl

  or_right-false : (a b : Bool) → (a || b) ≡ false → b ≡ false
  or_right-false true b e = absurd (true≢false e)
  or_right-false false b e = e

  module _ (unchanged : (s : S) (x : A) → p.changes s x ≡ false → p.after s x ≡ s) where
    unchanging : (s : S) (hs : List (Happening A N)) → changes_in p s hs ≡ false → after_all p s hs ≡ shown_from p s hs
    unchanging s [] none = refl
    unchanging s (Noted n ∷ hs) none = unchanging (p.noted s n) hs none
    unchanging s (Came x ∷ hs) none =
        unchanging (p.after s x) hs (or_right-false (p.changes s x) (changes_in p (p.after s x) hs) none)
        ∙ ap (λ (t : S). shown_from p t hs) (unchanged s x (or_left-false (p.changes s x) (changes_in p (p.after s x) hs) none))

    noted-handled : (h : Bool) (b : Batch S A N M) (x : A) → IsNoted b → IsNoted (if h then holds b x else answers p b x)
    noted-handled true b x h = record { since = h.since; is = shown-append p b.base b.since (Came x ∷ []) ∙ h.is }
    noted-handled false b x h = record { since = h.since; is = h.is }

    noted-observed : (w : Bool) (b : Batch S A N M) (n : N) → IsNoted b → IsNoted (observes p w b n)
    noted-observed true b n h = record {
      since = h.since ++ n ∷ [];
      is = shown-append p b.base b.since (Noted n ∷ []) ∙ one_more b n h;
    }
    noted-observed false b n h = record { since = h.since ++ n ∷ []; is = one_more b n h }

    noted-saved : (w : Bool) (now : S) (rest : List (Happening A N)) (b : Batch S A N M)
        → changes_in p now rest ≡ w
        → IsNoted (goes_on p w now rest b)
    noted-saved true now rest b is = record { since = notes_of rest; is = shown_noted p now rest }
    noted-saved false now rest b is = record { since = notes_of rest; is = unchanging now rest is ∙ shown_noted p now rest }

-- ---- inputs that come in late

-- it comes in at a clock by its event, as long as there is room; frames stay where they are
abbrev ComesTo : Network → ℕ → List Held → ClockInput → Type 0
ComesTo N c frames x = (k : RestartingNetwork) → Stay frames k.frames → no_room (held_frames k) ≡ None
    → (refused N k x.event ≡ None) × (happens N k x.event ≡ takes_turn N k c x.port x.frame)

abbrev CanCome : Network → ℕ → List Held → Happening ClockInput Observation → Type 0
CanCome N c frames (Came x) = ComesTo N c frames x
CanCome N c frames (Noted o) = Unit {0}

-- an event of these calls
abbrev CanHappen : Network → ℕ → List Held → saving.Event ClockInput Observation → Type 0
CanHappen N c frames (Comes x) = ComesTo N c frames x
CanHappen N c frames (Notes o) = Unit {0}
CanHappen N c frames Saves = Unit {0}
CanHappen N c frames Sends = ⊥
CanHappen N c frames Fails = ⊥

module _ (N : Network) (c : ℕ) (frames : List Held) where
  events-can : (hs : List (Happening ClockInput Observation)) → AllByRecursion (CanCome N c frames) hs
      → AllByRecursion (CanHappen N c frames) (events hs)
  events-can [] all = tt
  events-can (Came x ∷ hs) all = (all.0, events-can hs all.1)
  events-can (Noted o ∷ hs) all = (tt, events-can hs all.1)

  notes-can : (hs : List (Happening ClockInput Observation)) → AllByRecursion (CanHappen N c frames) (notes hs)
  notes-can [] = tt
  notes-can (Came x ∷ hs) = notes-can hs
  notes-can (Noted o ∷ hs) = (tt, notes-can hs)

all-take : {X : Type 0} (P : X → Type 0) (n : ℕ) (xs : List X) → AllByRecursion P xs → AllByRecursion P (take n xs)
all-take P zero xs all = tt
all-take P (suc n) [] all = tt
all-take P (suc n) (x ∷ xs) all = (all.0, all-take P n xs all.1)

all-drop : {X : Type 0} (P : X → Type 0) (n : ℕ) (xs : List X) → AllByRecursion P xs → AllByRecursion P (drop n xs)
all-drop P zero xs all = all
all-drop P (suc n) [] all = tt
all-drop P (suc n) (x ∷ xs) all = all-drop P n xs all.1

-- ---- one place

twice : {A : Type 0} (f : ℕ → A) (i : ℕ) (a b : A) (j : ℕ) → with_place (with_place f i a) i b j ≡ with_place f i b j
twice f i a b j = by_test (j == i)
    (λ y. with_place-same (with_place f i a) i b j y ∙ sym (with_place-same f i b j y))
    (λ o. with_place-other (with_place f i a) i b j o ∙ with_place-other f i a j o ∙ sym (with_place-other f i b j o))

replaced : {A : Type 0} (f : ℕ → A) (i j : ℕ) → with_place f i (f i) j ≡ f j
replaced f i j = at_place (λ k a. a ≡ f k) f i (f i) j refl refl

-- ---- a clock among others, as a device

-- how many frames it has that are not sent
abbrev weight : ClockDevice → ℕ
weight d = length d.ready + length d.waiting

module _ (N : Network) (c : ℕ) (k : RestartingNetwork) (frames : List Held) where
  abbrev stored_at : ClockDevice → State → Stored State
  stored_at d stored = record { live = d.live; stored = stored; is_unsaved = d.is_unsaved }

  -- the network with this device at the place of the clock
  abbrev at : ClockDevice → State → RestartingNetwork
  at d stored = record k {
    clock = with_place k.clock c (stored_at d stored);
    frames = frames ++ d.ready;
    waiting = map (λ (h : Held). (c, h)) d.waiting;
  }

  record IsAt (d : ClockDevice) (next : RestartingNetwork) : Type 0 where
    stored : State
    clean : d.is_unsaved ≡ false → stored ≡ d.live
    is : next ≡ at d stored

  placed : (z x y : Stored State) (here there : List Held) (waits wait : List (ℕ × Held))
      → x ≡ y → here ≡ there → waits ≡ wait
      → ◌≡◌ {A = RestartingNetwork} (record k { clock = with_place (with_place k.clock c z) c x; frames = here; waiting = waits })
      (record k { clock = with_place k.clock c y; frames = there; waiting = wait })
  placed z x y here' there waits wait same f w = λ i. record k {
    clock = λ d. (twice k.clock c z x d ∙ ap (λ (s : Stored State). with_place k.clock c s d) same) i;
    frames = f i;
    waiting = w i;
  }

  took-at : (v : Verdict) (u : Bool) (live saved' stored : State) (waiting ready sent : List Held) (x : ClockInput)
      → (u ≡ false → stored ≡ live)
      → NextIs v live (turn (N.clock c) live x.port x.frame.octets).next
      → IsAt (took (network_clock N c) (u || is_new v) (record { live = live; saved = saved'; is_unsaved = u; waiting = waiting; ready = ready; sent = sent }) x)
      (turned (at (record { live = live; saved = saved'; is_unsaved = u; waiting = waiting; ready = ready; sent = sent }) stored) c
      (after_verdict v (record { live = live; stored = stored; is_unsaved = u }) (turn (N.clock c) live x.port x.frame.octets).next)
      (map held (turn_frames N live c x.port x.frame)))
  took-at verdicts.AnsweredNew true live saved' stored waiting ready sent x clean next = record {
    stored = stored;
    clean = λ e. absurd (true≢false e);
    is = placed _ _ _ _ _ _ _ refl refl (sym (map-append (λ (h : Held). (c, h)) waiting (map held (turn_frames N live c x.port x.frame))));
  }
  took-at verdicts.AnsweredNew false live saved' stored waiting ready sent x clean next = record {
    stored = stored;
    clean = λ e. absurd (true≢false e);
    is = placed _ _ _ _ _ _ _ refl refl (sym (map-append (λ (h : Held). (c, h)) waiting (map held (turn_frames N live c x.port x.frame))));
  }
  took-at _ true live saved' stored waiting ready sent x clean next = record {
    stored = stored;
    clean = λ e. absurd (true≢false e);
    is = placed _ _ _ _ _ _ _ (λ i. record { live = sym next i; stored = stored; is_unsaved = true }) refl
        (sym (map-append (λ (h : Held). (c, h)) waiting (map held (turn_frames N live c x.port x.frame))));
  }
  took-at _ false live saved' stored waiting ready sent x clean next = record {
    stored = stored;
    clean = λ e. clean refl ∙ sym next;
    is = placed _ _ _ _ _ _ _ (λ i. record { live = sym next i; stored = stored; is_unsaved = false })
        (append_assoc frames ready (map held (turn_frames N live c x.port x.frame))) refl;
  }

  takes-at : (d : ClockDevice) (stored : State) (x : ClockInput)
      → (d.is_unsaved ≡ false → stored ≡ d.live) → ComesTo N c frames x → no_room (held_frames (at d stored)) ≡ None
      → IsAt (saving.happens (network_clock N c) d (Comes x)) (incident N (at d stored) (Happens x.event))
  takes-at d stored x clean comes room =
      let now : RestartingNetwork = at d stored in
      let both = comes now (stay-append frames d.ready) room in
      let took' = took-at (turn (N.clock c) d.live x.port x.frame.octets).verdict d.is_unsaved d.live d.saved stored d.waiting d.ready d.sent x clean
      (turn-next (N.clock c) d.live x.port x.frame.octets) in
      record {
        stored = took'.stored;
        clean = took'.clean;
        is = ap (λ (o : Option Refusal). unless o now (happens N now x.event)) both.0
            ∙ both.1
            ∙ ap (λ (z : Stored State). turned now c (after_verdict (turn (N.clock c) z.live x.port x.frame.octets).verdict z (turn (N.clock c) z.live x.port x.frame.octets).next)
            (map held (turn_frames N z.live c x.port x.frame))) (here k.clock c (stored_at d stored))
            ∙ took'.is;
      }

  notes-at : (d : ClockDevice) (stored : State) (o : Observation)
      → nat_lt c N.clocks ≡ true → (d.is_unsaved ≡ false → stored ≡ d.live)
      → IsAt (saving.happens (network_clock N c) d (Notes o)) (incident N (at d stored) (Observes c o))
  notes-at d stored o place clean =
      let now : RestartingNetwork = at d stored in
      let moved : State = moved_state o.clock o.ports d.live in
      record {
        stored = if d.is_unsaved then stored else moved;
        clean = λ e. cond-false d.is_unsaved stored moved e;
        is = cond-true (nat_lt c N.clocks) _ _ place
            ∙ ap (λ (z : Stored State). record now { clock = with_place now.clock c (noted z (moved_state o.clock o.ports z.live)) }) (here k.clock c (stored_at d stored))
            ∙ placed _ _ _ _ _ _ _ refl refl refl;
      }

  saves-at : (d : ClockDevice) (stored : State)
      → IsAt (saving.happens (network_clock N c) d Saves) (incident N (at d stored) (SaveClock c))
  saves-at d stored =
      let now : RestartingNetwork = at d stored in
      record {
        stored = d.live;
        clean = λ e. refl;
        is = ap (λ (z : Stored State). record now { clock = with_place now.clock c (saved z); frames = now.frames ++ waiting_at c now.waiting; waiting = waiting_elsewhere c now.waiting })
            (here k.clock c (stored_at d stored))
            ∙ placed _ _ _ _ _ _ _ refl
            (ap (λ (hs : List Held). (frames ++ d.ready) ++ hs) (at-own c d.waiting) ∙ append_assoc frames d.ready d.waiting) (elsewhere-own c d.waiting);
      }

  took-grows : (b : Bool) (d : ClockDevice) (x : ClockInput) → weight d ≤ weight (took (network_clock N c) b d x)
  took-grows true d x = omega (arith, length-append d.waiting (map held (turn_frames N d.live c x.port x.frame)))
  took-grows false d x = omega (arith, length-append d.ready (map held (turn_frames N d.live c x.port x.frame)))

  grows : (d : ClockDevice) (es : List (saving.Event ClockInput Observation)) → AllByRecursion (CanHappen N c frames) es
      → weight d ≤ weight (happen_all (network_clock N c) d es)
  grows d [] can = omega arith
  grows d (Comes x ∷ es) can = le_trans (took-grows (d.is_unsaved || (network_clock N c).changes d.live x) d x)
      (grows (saving.happens (network_clock N c) d (Comes x)) es can.1)
  grows d (Notes o ∷ es) can = grows (saving.happens (network_clock N c) d (Notes o)) es can.1
  grows d (Saves ∷ es) can =
      let rest = grows (saving.happens (network_clock N c) d Saves) es can.1 in
      omega (arith, length-append d.ready d.waiting, rest)
  grows d (Sends ∷ es) can = absurd can.0
  grows d (Fails ∷ es) can = absurd can.0

  room-at : (d : ClockDevice) (stored : State) (whole : List Held) → no_room whole ≡ None → length frames + weight d ≤ length whole
      → no_room (held_frames (at d stored)) ≡ None
  room-at d stored whole room fits =
      let waits : List (ℕ × Held) = map (λ (h : Held). (c, h)) d.waiting in
      fewer (held_frames (at d stored)) whole
      (omega (
        arith,
        fits,
        length-append (frames ++ d.ready) (map (λ (w : ℕ × Held). w.1) waits),
        length-append frames d.ready,
        length-map waits (λ (w : ℕ × Held). w.1),
        length-map {B = ℕ × Held} d.waiting (λ (h : Held). (c, h)),
      )) room

  module _ (whole : List Held) (room : no_room whole ≡ None) (place : nat_lt c N.clocks ≡ true) where
    events-at : (d : ClockDevice) (stored : State) (es : List (saving.Event ClockInput Observation))
        → (d.is_unsaved ≡ false → stored ≡ d.live) → AllByRecursion (CanHappen N c frames) es
        → length frames + weight (happen_all (network_clock N c) d es) ≤ length whole
        → IsAt (happen_all (network_clock N c) d es) (after_incidents N (at d stored) (incidents_at c es))
    events-at d stored [] clean can fits = record { stored = stored; clean = clean; is = refl }
    events-at d stored (Comes x ∷ es) clean can fits =
        let below = grows d (Comes x ∷ es) can in
        let one = takes-at d stored x clean can.0 (room-at d stored whole room (omega (arith, below, fits))) in
        let next : ClockDevice = saving.happens (network_clock N c) d (Comes x) in
        subst (λ (z : RestartingNetwork). IsAt (happen_all (network_clock N c) next es) (after_incidents N z (incidents_at c es))) (sym one.is)
        (events-at next one.stored es one.clean can.1 fits)
    events-at d stored (Notes o ∷ es) clean can fits =
        let one = notes-at d stored o place clean in
        let next : ClockDevice = saving.happens (network_clock N c) d (Notes o) in
        subst (λ (z : RestartingNetwork). IsAt (happen_all (network_clock N c) next es) (after_incidents N z (incidents_at c es))) (sym one.is)
        (events-at next one.stored es one.clean can.1 fits)
    events-at d stored (Saves ∷ es) clean can fits =
        let one = saves-at d stored in
        let next : ClockDevice = saving.happens (network_clock N c) d Saves in
        subst (λ (z : RestartingNetwork). IsAt (happen_all (network_clock N c) next es) (after_incidents N z (incidents_at c es))) (sym one.is)
        (events-at next one.stored es one.clean can.1 fits)
    events-at d stored (Sends ∷ es) clean can fits = absurd can.0
    events-at d stored (Fails ∷ es) clean can fits = absurd can.0

-- ---- a call at a clock

record IsWell (N : Network) (frames : List Held) (c : ℕ) (x : ClockBatch) : Type 0 where
  none_ready : x.ready ≡ []
  inputs : AllByRecursion (CanCome N c frames) x.since
  can : nat_lt c N.clocks ≡ true → Can CanBe x
  noted : IsNoted (network_clock N c) x

come-later : (N : Network) (c : ℕ) (frames more : List Held) → Stay frames more
    → (h : Happening ClockInput Observation) → CanCome N c frames h
    → CanCome N c more h
come-later N c frames more grow (Came x) can = λ k stay room. can k (λ n y is. stay n y (grow n y is)) room
come-later N c frames more grow (Noted o) can = tt

well-later : (N : Network) (c : ℕ) (frames more : List Held) (x : ClockBatch) → Stay frames more → IsWell N frames c x → IsWell N more c x
well-later N c frames more x grow well = record {
  none_ready = well.none_ready;
  inputs = all_weaker (CanCome N c frames) (CanCome N c more) (come-later N c frames more grow) x.since well.inputs;
  can = well.can;
  noted = well.noted;
}

module _ (N : Network) (b : BatchingNetwork) (c : ℕ) (well : IsWell N b.frames c (b.clock c)) where
  abbrev process : Process State ClockInput Observation Held
  process = network_clock N c

  abbrev batch : ClockBatch
  batch = b.clock c

  abbrev now : RestartingNetwork
  now = shown_network N b

  abbrev device : ClockBatch → ClockDevice
  device y = as_device process y

  abbrev Leads : ClockBatch → List Incident → Type 0
  Leads y is = shown_network N (sends_ready b c y) ≡ after_incidents N now is

  at_start : now ≡ at N c now b.frames (device batch) (shown process batch)
  at_start = λ i. record now {
    clock = λ d. sym (replaced now.clock c d) i;
    frames = sym (ap (λ (hs : List Held). b.frames ++ hs) well.none_ready ∙ append-nil b.frames) i;
  }

  shown_place : (y : ClockBatch) (d : ℕ)
      → saved_as (shown (network_clock N d) (with_place b.clock c (record y { ready = [] }) d)) ≡ with_place now.clock c (saved_as (shown process y)) d
  shown_place y d = at_places (λ e (z : ClockBatch) (w : Stored State). saved_as (shown (network_clock N e) z) ≡ w) b.clock now.clock c (record y { ready = [] })
      (saved_as (shown process y)) d refl refl

  at_end : (y : ClockBatch) → shown_network N (sends_ready b c y) ≡ at N c now b.frames (device y) (shown process y)
  at_end y = λ i. record now { clock = λ d. shown_place y d i; frames = b.frames ++ y.ready }

  ends : (y : ClockBatch) (next : RestartingNetwork) → IsAt N c now b.frames (device y) next → shown_network N (sends_ready b c y) ≡ next
  ends y next led = at_end y ∙ ap (λ (s : State). at N c now b.frames (device y) s) (sym (led.clean refl)) ∙ sym led.is

  leads : (y : ClockBatch) (es : List (saving.Event ClockInput Observation))
      → happen_all process (device batch) es ≡ device y
      → IsAt N c now b.frames (happen_all process (device batch) es)
      (after_incidents N (at N c now b.frames (device batch) (shown process batch)) (incidents_at c es))
      → Leads y (incidents_at c es)
  leads y es same led =
      ends y _ (subst (λ (d : ClockDevice). IsAt N c now b.frames d (after_incidents N (at N c now b.frames (device batch) (shown process batch)) (incidents_at c es))) same led)
      ∙ sym (ap (λ (z : RestartingNetwork). after_incidents N z (incidents_at c es)) at_start)

  called : (y : ClockBatch) (es : List (saving.Event ClockInput Observation))
      → nat_lt c N.clocks ≡ true → no_room (b.frames ++ y.ready) ≡ None → AllByRecursion (CanHappen N c b.frames) es
      → happen_all process (device batch) es ≡ device y
      → Leads y (incidents_at c es)
  called y es place room can same = leads y es same
      (events-at N c now b.frames (b.frames ++ y.ready) room place (device batch) (shown process batch) es (λ e. refl) can
      (subst (λ (d : ClockDevice). length b.frames + weight d ≤ length (b.frames ++ y.ready)) (sym same) (omega (arith, length-append b.frames y.ready))))

  abbrev sound : IsSound process CanBe
  sound = network_clock-sound N c

  abbrev held_there : ClockInput → Bool
  held_there = is_held_at N c

  called-as : (call : Call ClockInput Observation)
      → nat_lt c N.clocks ≡ true → no_room (calls_at N b c call).frames ≡ None → AllByRecursion (CanHappen N c b.frames) (events_of process held_there batch call)
      → Leads (calls process held_there batch call) (incidents_of_call N b c call)
  called-as call place room can = called (calls process held_there batch call) (events_of process held_there batch call) place room can
      (one_call process held_there CanBe sound (network_clock-holds N c) batch call (well.can place).base)

  observes-leads : (o : Observation) → nat_lt c N.clocks ≡ true → no_room (calls_at N b c (batching.Observes o)).frames ≡ None
      → Leads (calls process held_there batch (batching.Observes o)) (incidents_of_call N b c (batching.Observes o))
  observes-leads o place room = called-as (batching.Observes o) place room (tt, tt)

  rest-can : (w : Bool) (rest : List (Happening ClockInput Observation)) → AllByRecursion (CanCome N c b.frames) rest
      → AllByRecursion (CanHappen N c b.frames) (if w then notes rest else events rest)
  rest-can true rest can = notes-can N c b.frames rest
  rest-can false rest can = events-can N c b.frames rest can

  confirms-leads : (count : ℕ) → nat_lt c N.clocks ≡ true → no_room (calls_at N b c (Confirms count)).frames ≡ None
      → Leads (calls process held_there batch (Confirms count)) (incidents_of_call N b c (Confirms count))
  confirms-leads count place room =
      let first = take count batch.since in
      let rest = drop count batch.since in
      called-as (Confirms count) place room (
        tt,
        all_append (CanHappen N c b.frames) (events first) (Saves ∷ comes_after process (after_all process batch.base first) rest)
            (events-can N c b.frames first (all-take (CanCome N c b.frames) count batch.since well.inputs))
            (tt, rest-can (changes_in process (after_all process batch.base first) rest) rest (all-drop (CanCome N c b.frames) count batch.since well.inputs)),
      )

  handles-as : (h : Bool) (x : ClockInput) → (h ≡ false → process.changes (shown process batch) x ≡ false) → ComesTo N c b.frames x
      → no_room (b.frames ++ (if h then holds batch x else answers process batch x).ready) ≡ None
      → Leads (if h then holds batch x else answers process batch x) (incidents_at c (if h then [] else Comes x ∷ []))
  handles-as true x others comes room = leads (holds batch x) [] (handled process held_there CanBe sound (network_clock-holds N c) true batch x others)
      (record { stored = shown process batch; clean = λ e. refl; is = refl })
  handles-as false x others comes room = leads (answers process batch x) (Comes x ∷ [])
      (handled process held_there CanBe sound (network_clock-holds N c) false batch x others)
      (takes-at N c now b.frames (device batch) (shown process batch) x (λ e. refl) comes
      (room-at N c now b.frames (device batch) (shown process batch) (b.frames ++ (batch.ready ++ process.messages (shown process batch) x)) room
      (omega (arith, length-append b.frames (batch.ready ++ process.messages (shown process batch) x), length-append batch.ready (process.messages (shown process batch) x)))))

  handles-leads : (x : ClockInput) → ComesTo N c b.frames x → no_room (calls_at N b c (Handles x)).frames ≡ None
      → Leads (calls process held_there batch (Handles x)) (incidents_of_call N b c (Handles x))
  handles-leads x comes room = handles-as (is_held process held_there batch x) x
      (unheld process held_there CanBe sound (network_clock-holds N c) (held_there x) (waits batch.since) (process.changes (shown process batch) x)
      (network_clock-holds N c (shown process batch) x)) comes room

  -- after a crash, what was observed is as it was saved
  crash-leads : nat_lt c N.clocks ≡ true
      → Leads (calls process held_there batch LosesPower) (incidents_of_call N b c LosesPower ++ Observes c (as_observed batch.saved.sets) ∷ [])
  crash-leads place =
      let lost : ClockDevice = record { live = shown process batch; saved = batch.saved; is_unsaved = false; waiting = []; ready = []; sent = batch.sent } in
      let crashed : crashes_clock now c ≡ at N c now b.frames lost (shown process batch) =
      (λ i. record now { clock = with_place now.clock c (saved_as (shown process batch)); frames = sym (append-nil b.frames) i }) in
      let observed = notes-at N c now b.frames lost (shown process batch) (as_observed batch.saved.sets) place (λ e. refl) in
      let back : process.noted (shown process batch) (process.back batch.saved) ≡ batch.saved =
      ap (λ (s : State). process.noted s (process.back batch.saved)) well.noted.is ∙ sound.goes_back batch.saved well.noted.since (well.can place).saved in
      ends (restarts_at batch.saved batch) _
      (subst (λ (s : State). IsAt N c now b.frames (record lost { live = s }) (incident N (at N c now b.frames lost (shown process batch)) (Observes c (as_observed batch.saved.sets)))) back observed)
      ∙ sym (ap (λ (z : RestartingNetwork). incident N z (Observes c (as_observed batch.saved.sets))) crashed)

  -- ---- what stays so

  -- a call that clocks of a network get, and no others
  abbrev IsOfNetwork : Call ClockInput Observation → Type 0
  IsOfNetwork (Handles x) = ComesTo N c b.frames x
  IsOfNetwork batching.GivesOut = ⊥
  IsOfNetwork (batching.LosesPowerAfter count) = ⊥
  IsOfNetwork _ = Unit {0}

  abbrev AreInputs : List (Happening ClockInput Observation) → Type 0
  AreInputs hs = AllByRecursion (CanCome N c b.frames) hs

  inputs-handled : (h : Bool) (x : ClockInput) → ComesTo N c b.frames x → AreInputs (if h then holds batch x else answers process batch x).since
  inputs-handled true x comes = all_append (CanCome N c b.frames) batch.since (Came x ∷ []) well.inputs (comes, tt)
  inputs-handled false x comes = well.inputs

  inputs-observed : (w : Bool) (o : Observation) → AreInputs (observes process w batch o).since
  inputs-observed true o = all_append (CanCome N c b.frames) batch.since (Noted o ∷ []) well.inputs (tt, tt)
  inputs-observed false o = tt

  inputs-saved : (w : Bool) (s : State) (rest : List (Happening ClockInput Observation)) (y : ClockBatch) → AreInputs rest → AreInputs (goes_on process w s rest y).since
  inputs-saved true s rest y all = all
  inputs-saved false s rest y all = tt

  inputs-called : (call : Call ClockInput Observation) → IsOfNetwork call → AreInputs (calls process held_there batch call).since
  inputs-called (Handles x) comes = inputs-handled (is_held process held_there batch x) x comes
  inputs-called (batching.Observes o) comes = inputs-observed (waits batch.since) o
  inputs-called (Confirms count) comes = inputs-saved (changes_in process (after_all process batch.base (take count batch.since)) (drop count batch.since)) _ _ _
      (all-drop (CanCome N c b.frames) count batch.since well.inputs)
  inputs-called LosesPower comes = tt
  inputs-called batching.GivesOut comes = absurd comes
  inputs-called (batching.LosesPowerAfter count) comes = absurd comes

  noted-called : (call : Call ClockInput Observation) → IsOfNetwork call → IsNoted process (calls process held_there batch call)
  noted-called (Handles x) comes = noted-handled process sound.unchanged (is_held process held_there batch x) batch x well.noted
  noted-called (batching.Observes o) comes = noted-observed process sound.unchanged (waits batch.since) batch o well.noted
  noted-called (Confirms count) comes =
      noted-saved process sound.unchanged (changes_in process (after_all process batch.base (take count batch.since)) (drop count batch.since)) _ _ _ refl
  noted-called LosesPower comes = record { since = []; is = refl }
  noted-called batching.GivesOut comes = absurd comes
  noted-called (batching.LosesPowerAfter count) comes = absurd comes

  can-called : (call : Call ClockInput Observation) → nat_lt c N.clocks ≡ true → Can CanBe (record (calls process held_there batch call) { ready = [] })
  can-called call place =
      let can = can_call process held_there CanBe sound (network_clock-holds N c) batch call (well.can place) in
      record { base = can.base; saved = can.saved }

  well-called : (call : Call ClockInput Observation) → IsOfNetwork call
      → ((d : ℕ) → IsWell N b.frames d (b.clock d))
      → (d : ℕ) → IsWell N (calls_at N b c call).frames d ((calls_at N b c call).clock d)
  well-called call comes all d =
      let y : ClockBatch = calls process held_there batch call in
      let grow = stay-append b.frames y.ready in
      let kept = noted-called call comes in
      at_place (λ e z. IsWell N (b.frames ++ y.ready) e z) b.clock c (record y { ready = [] }) d
      (record {
        none_ready = refl;
        inputs = all_weaker (CanCome N c b.frames) (CanCome N c (b.frames ++ y.ready)) (come-later N c b.frames (b.frames ++ y.ready) grow) y.since (inputs-called call comes);
        can = can-called call;
        noted = record { since = kept.since; is = kept.is };
      })
      (well-later N d b.frames (b.frames ++ y.ready) (b.clock d) grow (all d))

-- ---- how a frame comes in at a clock

module _ (N : Network) (frames : List Held) where
  event-of-end : (e : Event) (h : Held) (end : End) (x : ℕ × ClockInput) → input_at e h end ≡ Some x → x.1.event ≡ e
  event-of-end e h (AtPort c port) x is = ap (λ (y : ℕ × ClockInput). y.1.event) (sym (same_Some _ x is))
  event-of-end e h (AtSession s) x is = absurd (cc)

  event-of-frame : (e : Event) (o : Option Held) (x : ℕ × ClockInput) → input_of e o ≡ Some x → x.1.event ≡ e
  event-of-frame e None x is = absurd (cc)
  event-of-frame e (Some h) x is = event-of-end e h h.end x is

  event-of : (e : Event) (x : ℕ × ClockInput) → clock_input frames e ≡ Some x → x.1.event ≡ e
  event-of (Deliver n) x is = event-of-frame (Deliver n) (frame_at frames n) x is
  event-of (Stranger c port datagram) x is = ap (λ (y : ℕ × ClockInput). y.1.event) (sym (same_Some _ x is))
  event-of _ x is = absurd (cc)

  delivery-comes : (n c port : ℕ) (h : Held) → frame_at frames n ≡ Some h → h.end ≡ AtPort c port
      → ComesTo N c frames (record { event = Deliver n; port = port; frame = seen h })
  delivery-comes n c port h at' end = λ k stay room.
      let there : frame_at k.frames n ≡ Some h = stay n h at' in
      let sent : no_room k.frames ≡ None = fewer k.frames (held_frames k) (omega (arith, length-append k.frames (map (λ (w : ℕ × Held). w.1) k.waiting))) room in (
        ap (λ (y : Result Happened Refusal). option_or (result_err y) (no_room (held_frames k))) (delivers-to N (running k) n h (AtPort c port) there end sent) ∙ room,
        ap (delivered N k) there ∙ ap (comes_in N k h) end,
      )

  stranger-comes : (k : RestartingNetwork) (c port : ℕ) (datagram : List ℕ) → refused N k (Stranger c port datagram) ≡ None
      → ComesTo N c frames (record { event = Stranger c port datagram; port = port; frame = strange_frame c port datagram })
  unfolding network_event
  stranger-comes k c port datagram none = λ later stay room.
      let all = option_or-none _ (no_room (held_frames k)) none in
      let one = clear (no_port N c port) _ all.0 in
      let two = clear (forged N datagram) _ one.1 in
      let sent : no_room later.frames ≡ None =
      fewer later.frames (held_frames later) (omega (arith, length-append later.frames (map (λ (w : ℕ × Held). w.1) later.waiting))) room in
      let ok : network_event N (running later) (Stranger c port datagram) ≡ Ok (running_network.takes_turn N (running later) c port (strange_frame c port datagram)) =
      passes (no_port N c port) _ one.0 ∙ passes (forged N datagram) _ two.0 ∙ passes (no_room later.frames) _ sent in
      (ap (λ (y : Result Happened Refusal). option_or (result_err y) (no_room (held_frames later))) ok ∙ room, refl)

  comes-at-end : (n : ℕ) (h : Held) (end : End) (x : ℕ × ClockInput) → frame_at frames n ≡ Some h → h.end ≡ end → input_at (Deliver n) h end ≡ Some x
      → ComesTo N x.0 frames x.1
  comes-at-end n h (AtPort c port) x at' end is =
      subst (λ (y : ℕ × ClockInput). ComesTo N y.0 frames y.1) (same_Some _ x is) (delivery-comes n c port h at' end)
  comes-at-end n h (AtSession s) x at' end is = absurd (cc)

  comes-as-frame : (n : ℕ) (o : Option Held) (x : ℕ × ClockInput) → frame_at frames n ≡ o → input_of (Deliver n) o ≡ Some x → ComesTo N x.0 frames x.1
  comes-as-frame n None x at' is = absurd (cc)
  comes-as-frame n (Some h) x at' is = comes-at-end n h h.end x at' refl is

  input-comes : (k : RestartingNetwork) (e : Event) (x : ℕ × ClockInput) → clock_input frames e ≡ Some x → refused N k e ≡ None → ComesTo N x.0 frames x.1
  input-comes k (Deliver n) x is none = comes-as-frame n (frame_at frames n) x refl is
  input-comes k (Stranger c port datagram) x is none =
      subst (λ (y : ℕ × ClockInput). ComesTo N y.0 frames y.1) (same_Some _ x is) (stranger-comes k c port datagram none)
  input-comes k _ x is none = absurd (cc)

-- ---- what happens at no clock

-- clocks stay, and frames stay where they are
record IsElsewhere (k next : RestartingNetwork) : Type 0 where
  clock : next.clock ≡ k.clock
  waiting : next.waiting ≡ k.waiting
  stay : Stay k.frames next.frames

elsewhere : (k next : RestartingNetwork) → next.clock ≡ k.clock → next.waiting ≡ k.waiting → next.frames ≡ k.frames → IsElsewhere k next
elsewhere k next clock waiting frames = record { clock = clock; waiting = waiting; stay = subst (Stay k.frames) (sym frames) (λ n y is. is) }

module _ (N : Network) (k : RestartingNetwork) where
  sends-elsewhere : (s : ℕ) (b : Bool) → IsElsewhere k (restarting.sends b N k s)
  sends-elsewhere s true = elsewhere k _ refl refl refl
  sends-elsewhere s false = record { clock = refl; waiting = refl; stay = stay-append k.frames _ }

  hears-elsewhere : (s : ℕ) (y : Received) → IsElsewhere k (restarting.hears k s y)
  hears-elsewhere s (received.Answered report) = elsewhere k _ refl refl refl
  hears-elsewhere s (received.Ignored reason) = elsewhere k _ refl refl refl

  end-elsewhere : (e : Event) (h : Held) (end : End) → input_at e h end ≡ None → IsElsewhere k (comes_in N k h end)
  end-elsewhere e h (AtPort c port) is = absurd (cc)
  end-elsewhere e h (AtSession s) is = hears-elsewhere s (received_of (k.session s).live.session h.octets)

  delivery-elsewhere : (e : Event) (o : Option Held) → input_of e o ≡ None → IsElsewhere k (delivered N k o)
  delivery-elsewhere e None is = elsewhere k _ refl refl refl
  delivery-elsewhere e (Some h) is = end-elsewhere e h h.end is

  replay-elsewhere : (o : Option Held) (end : End) → IsElsewhere k (replayed k o end)
  replay-elsewhere None end = elsewhere k _ refl refl refl
  replay-elsewhere (Some h) end = record { clock = refl; waiting = refl; stay = stay-append k.frames _ }

  event-elsewhere : (e : Event) → clock_input k.frames e ≡ None → IsElsewhere k (happens N k e)
  event-elsewhere (Begin s a) is = elsewhere k _ refl refl refl
  event-elsewhere (Send s) is = sends-elsewhere s (k.session s).is_unsaved
  event-elsewhere (Resume s attempts) is = elsewhere k _ refl refl refl
  event-elsewhere (Retune s domain) is = elsewhere k _ refl refl refl
  event-elsewhere (Deliver n) is = delivery-elsewhere (Deliver n) (frame_at k.frames n) is
  event-elsewhere (Replay n end) is = replay-elsewhere (frame_at k.frames n) end
  event-elsewhere (Stranger c port datagram) is = absurd (cc)

  let_go-elsewhere : (s : ℕ) (o : Option GiveUpRefusal) → IsElsewhere k (lets_go o k s)
  let_go-elsewhere s None = elsewhere k _ refl refl refl
  let_go-elsewhere s (Some reason) = elsewhere k _ refl refl refl

  gives_up-elsewhere : (s : ℕ) (t : Bool) → IsElsewhere k (if t then lets_go (give_up_refusal (k.session s).live.session) k s else k)
  gives_up-elsewhere s true = let_go-elsewhere s (give_up_refusal (k.session s).live.session)
  gives_up-elsewhere s false = elsewhere k _ refl refl refl

-- ---- one incident

abbrev AreWell : Network → BatchingNetwork → Type 0
AreWell N b = (c : ℕ) → IsWell N b.frames c (b.clock c)

module _ (N : Network) (b : BatchingNetwork) (well : AreWell N b) where
  abbrev shown_now : RestartingNetwork
  shown_now = shown_network N b

  elsewhere-leads : (next : RestartingNetwork) → IsElsewhere shown_now next → shown_network N (with_sessions_of b next) ≡ next
  elsewhere-leads next is = λ i. record {
    clock = sym is.clock i;
    session = next.session;
    frames = next.frames;
    waiting = sym is.waiting i;
    told = next.told;
  }

  elsewhere-well : (next : RestartingNetwork) → IsElsewhere shown_now next → AreWell N (with_sessions_of b next)
  elsewhere-well next is = λ c. well-later N c b.frames next.frames (b.clock c) is.stay (well c)

  guarded : (t : Bool) (next : BatchingNetwork) (is : List Incident)
      → (t ≡ true → no_room next.frames ≡ None → shown_network N next ≡ after_incidents N shown_now is)
      → no_room (if t then next else b).frames ≡ None
      → shown_network N (if t then next else b) ≡ after_incidents N shown_now (if t then is else [])
  guarded true next is leads' room = leads' refl room
  guarded false next is leads' room = refl

  guarded-well : (t : Bool) (next : BatchingNetwork) → AreWell N next → AreWell N (if t then next else b)
  guarded-well true next new = new
  guarded-well false next new = well

  refused-input : (h : Bool) (e : Event) (c : ℕ) (x : ClockInput) (reason : Refusal) → refused N shown_now e ≡ Some reason → x.event ≡ e
      → shown_now ≡ after_incidents N shown_now (incidents_at c (if h then [] else Comes x ∷ []))
  refused-input true e c x reason is same = refl
  refused-input false e c x reason is same =
      sym (ap (λ (o : Option Refusal). unless o shown_now (happens N shown_now x.event)) (ap (refused N shown_now) same ∙ is))

  event-leads : (e : Event) (q : Option (ℕ × ClockInput)) (r : Option Refusal) → clock_input b.frames e ≡ q → refused N shown_now e ≡ r
      → no_room (unless_refused r b (happens_at N b e q)).frames ≡ None
      → shown_network N (unless_refused r b (happens_at N b e q)) ≡ after_incidents N shown_now (incidents_of_event N b e q)
  event-leads e None None at' is room =
      elsewhere-leads (happens N shown_now e) (event-elsewhere N shown_now e at')
      ∙ sym (ap (λ (o : Option Refusal). unless o shown_now (happens N shown_now e)) is)
  event-leads e None (Some reason) at' is room = sym (ap (λ (o : Option Refusal). unless o shown_now (happens N shown_now e)) is)
  event-leads e (Some x) None at' is room = handles-leads N b x.0 (well x.0) x.1 (input-comes N b.frames shown_now e x at' is) room
  event-leads e (Some x) (Some reason) at' is room =
      refused-input (is_held (network_clock N x.0) (is_held_at N x.0) (b.clock x.0) x.1) e x.0 x.1 reason is (event-of N b.frames e x at')

  event-well : (e : Event) (q : Option (ℕ × ClockInput)) (r : Option Refusal) → clock_input b.frames e ≡ q → refused N shown_now e ≡ r
      → AreWell N (unless_refused r b (happens_at N b e q))
  event-well e None None at' is = elsewhere-well (happens N shown_now e) (event-elsewhere N shown_now e at')
  event-well e None (Some reason) at' is = well
  event-well e (Some x) None at' is = well-called N b x.0 (well x.0) (Handles x.1) (input-comes N b.frames shown_now e x at' is) well
  event-well e (Some x) (Some reason) at' is = well

  incident-leads : (i : BatchIncident) → no_room (batch_incident N b i).frames ≡ None
      → shown_network N (batch_incident N b i) ≡ after_incidents N shown_now (incidents_of N b i)
  incident-leads (AsEver (Happens e)) room = event-leads e (clock_input b.frames e) (refused N shown_now e) refl refl room
  incident-leads (AsEver (SaveClock c)) room = guarded (nat_lt c N.clocks) _ _ (confirms-leads N b c (well c) (length (b.clock c).since)) room
  incident-leads (AsEver (CrashClock c)) room = guarded (nat_lt c N.clocks) _ _ (λ place room'. crash-leads N b c (well c) place) room
  incident-leads (AsEver (Observes c o)) room = guarded (nat_lt c N.clocks) _ _ (observes-leads N b c (well c) o) room
  incident-leads (AsEver (SaveSession s)) room = elsewhere-leads _ (elsewhere shown_now _ refl refl refl)
  incident-leads (AsEver (CrashSession s)) room = elsewhere-leads _ (elsewhere shown_now _ refl refl refl)
  incident-leads (AsEver (GivesUp s)) room = elsewhere-leads _ (gives_up-elsewhere N shown_now s (nat_lt s N.sessions))
  incident-leads (batches.Confirms c count) room = guarded (nat_lt c N.clocks) _ _ (confirms-leads N b c (well c) count) room

  incident-well : (i : BatchIncident) → AreWell N (batch_incident N b i)
  incident-well (AsEver (Happens e)) = event-well e (clock_input b.frames e) (refused N shown_now e) refl refl
  incident-well (AsEver (SaveClock c)) = guarded-well (nat_lt c N.clocks) _ (well-called N b c (well c) (Confirms (length (b.clock c).since)) tt well)
  incident-well (AsEver (CrashClock c)) = guarded-well (nat_lt c N.clocks) _ (well-called N b c (well c) LosesPower tt well)
  incident-well (AsEver (Observes c o)) = guarded-well (nat_lt c N.clocks) _ (well-called N b c (well c) (batching.Observes o) tt well)
  incident-well (AsEver (SaveSession s)) = elsewhere-well (incident N shown_now (SaveSession s)) (elsewhere shown_now _ refl refl refl)
  incident-well (AsEver (CrashSession s)) = elsewhere-well (incident N shown_now (CrashSession s)) (elsewhere shown_now _ refl refl refl)
  incident-well (AsEver (GivesUp s)) = elsewhere-well _ (gives_up-elsewhere N shown_now s (nat_lt s N.sessions))
  incident-well (batches.Confirms c count) = guarded-well (nat_lt c N.clocks) _ (well-called N b c (well c) (Confirms count) tt well)

-- ---- all of them

initial-well : (N : Network) → StartConsistent N → AreWell N (initial_batching N)
initial-well N start = λ c. record {
  none_ready = refl;
  inputs = tt;
  can = λ place. record { base = start c (ltb-true c N.clocks place); saved = start c (ltb-true c N.clocks place) };
  noted = record { since = []; is = refl };
}

incidents-lead : (N : Network) (b : BatchingNetwork) (is : List BatchIncident) → AreWell N b → HasRoom N b is
    → shown_network N (after_batch_incidents N b is) ≡ after_incidents N (shown_network N b) (all_incidents N b is)
incidents-lead N b [] well room = refl
incidents-lead N b (i ∷ is) well room =
    incidents-lead N (batch_incident N b i) is (incident-well N b well i) room.1
    ∙ ap (λ (k : RestartingNetwork). after_incidents N k (all_incidents N (batch_incident N b i) is)) (incident-leads N b well i room.0)
    ∙ sym (after-append N (shown_network N b) (incidents_of N b i) (all_incidents N (batch_incident N b i) is))

-- ---- the incidents are possible

abbrev FitsHappening : Happening ClockInput Observation → Type 0
FitsHappening (Came x) = IsInRange x.event
FitsHappening (Noted o) = IsSizedObservation o.clock

abbrev FitsEvent : saving.Event ClockInput Observation → Type 0
FitsEvent (Comes x) = IsInRange x.event
FitsEvent (Notes o) = IsSizedObservation o.clock
FitsEvent _ = Unit {0}

abbrev FitsCall : Call ClockInput Observation → Type 0
FitsCall (Handles x) = IsInRange x.event
FitsCall (batching.Observes o) = IsSizedObservation o.clock
FitsCall batching.GivesOut = ⊥
FitsCall (batching.LosesPowerAfter count) = ⊥
FitsCall _ = Unit {0}

events-possible : (c : ℕ) (es : List (saving.Event ClockInput Observation)) → AllByRecursion FitsEvent es → AllByRecursion IsPossibleAct (incidents_at c es)
events-possible c [] fit = tt
events-possible c (Comes x ∷ es) fit = (fit.0, events-possible c es fit.1)
events-possible c (Notes o ∷ es) fit = (fit.0, events-possible c es fit.1)
events-possible c (Saves ∷ es) fit = (tt, events-possible c es fit.1)
events-possible c (Sends ∷ es) fit = events-possible c es fit.1
events-possible c (Fails ∷ es) fit = (tt, events-possible c es fit.1)

events-fit : (hs : List (Happening ClockInput Observation)) → AllByRecursion FitsHappening hs → AllByRecursion FitsEvent (events hs)
events-fit [] fit = tt
events-fit (Came x ∷ hs) fit = (fit.0, events-fit hs fit.1)
events-fit (Noted o ∷ hs) fit = (fit.0, events-fit hs fit.1)

notes-fit : (hs : List (Happening ClockInput Observation)) → AllByRecursion FitsHappening hs → AllByRecursion FitsEvent (notes hs)
notes-fit [] fit = tt
notes-fit (Came x ∷ hs) fit = notes-fit hs fit.1
notes-fit (Noted o ∷ hs) fit = (fit.0, notes-fit hs fit.1)

sized-by : (w : Verdict) (c : Clock) (s : State) (v : Message) → IsSized s.sets → IsSized (next_by w c s v).sets
sized-by verdicts.AnsweredNew c s v is = changed_by-sized (request_of v) (c.rights v.source) s.sets is
sized-by _ c s v is = is

module _ (N : Network) (c : ℕ) where
  sized-next : (s : State) (x : ClockInput) → IsSized s.sets → IsSized ((network_clock N c).after s x).sets
  sized-next s x is = turns.turn-next (λ (t : State). IsSized t.sets) (N.clock c) s x.port x.frame.octets is
      (λ v read. sized-by (judged (N.clock c) s v) (N.clock c) s v is)

  sized-noted : (s : State) (o : Observation) → IsSizedObservation o.clock → IsSized s.sets → IsSized ((network_clock N c).noted s o).sets
  sized-noted s o fits is = observed-sized o.clock o.ports s.sets fits is

  sized-after : (s : State) (hs : List (Happening ClockInput Observation)) → AllByRecursion FitsHappening hs → IsSized s.sets
      → IsSized (after_all (network_clock N c) s hs).sets
  sized-after s [] fit is = is
  sized-after s (Came x ∷ hs) fit is = sized-after ((network_clock N c).after s x) hs fit.1 (sized-next s x is)
  sized-after s (Noted o ∷ hs) fit is = sized-after ((network_clock N c).noted s o) hs fit.1 (sized-noted s o fit.0 is)

  sized-shown : (s : State) (hs : List (Happening ClockInput Observation)) → AllByRecursion FitsHappening hs → IsSized s.sets
      → IsSized (shown_from (network_clock N c) s hs).sets
  sized-shown s [] fit is = is
  sized-shown s (Came x ∷ hs) fit is = sized-shown s hs fit.1 is
  sized-shown s (Noted o ∷ hs) fit is = sized-shown ((network_clock N c).noted s o) hs fit.1 (sized-noted s o fit.0 is)

observed-fits : (d : DataSetsValue) → IsSized d → IsSizedObservation (as_observed d).clock
observed-fits d is = (is.grandmaster, is.parent)

record IsFit (N : Network) (c : ℕ) (x : ClockBatch) : Type 0 where
  inputs : AllByRecursion FitsHappening x.since
  base : nat_lt c N.clocks ≡ true → IsSized x.base.sets
  saved : nat_lt c N.clocks ≡ true → IsSized x.saved.sets

module _ (N : Network) (c : ℕ) (x : ClockBatch) (fit : IsFit N c x) where
  abbrev process_of : Process State ClockInput Observation Held
  process_of = network_clock N c

  handles-fit : (h : Bool) (i : ClockInput) → IsInRange i.event → AllByRecursion FitsEvent (if h then [] else Comes i ∷ [])
  handles-fit true i range = tt
  handles-fit false i range = (range, tt)

  rest-fit : (w : Bool) (rest : List (Happening ClockInput Observation)) → AllByRecursion FitsHappening rest
      → AllByRecursion FitsEvent (if w then notes rest else events rest)
  rest-fit true rest fits = notes-fit rest fits
  rest-fit false rest fits = events-fit rest fits

  call-possible : (call : Call ClockInput Observation) → nat_lt c N.clocks ≡ true → FitsCall call
      → AllByRecursion FitsEvent (events_of process_of (is_held_at N c) x call)
  call-possible (Handles i) place fits = handles-fit (is_held process_of (is_held_at N c) x i) i fits
  call-possible (batching.Observes o) place fits = (fits, tt)
  call-possible (Confirms count) place fits =
      let first = take count x.since in
      let rest = drop count x.since in (
        observed-fits x.base.sets (fit.base place),
        all_append FitsEvent (events first) (Saves ∷ comes_after process_of (after_all process_of x.base first) rest)
            (events-fit first (all-take FitsHappening count x.since fit.inputs))
            (tt, rest-fit (changes_in process_of (after_all process_of x.base first) rest) rest (all-drop FitsHappening count x.since fit.inputs)),
      )
  call-possible LosesPower place fits = (tt, tt)
  call-possible batching.GivesOut place fits = absurd fits
  call-possible (batching.LosesPowerAfter count) place fits = absurd fits

  fit-handled : (h : Bool) (i : ClockInput) → IsInRange i.event → IsFit N c (if h then holds x i else answers process_of x i)
  fit-handled true i range = record { inputs = all_append FitsHappening x.since (Came i ∷ []) fit.inputs (range, tt); base = fit.base; saved = fit.saved }
  fit-handled false i range = record { inputs = fit.inputs; base = fit.base; saved = fit.saved }

  fit-observed : (w : Bool) (o : Observation) → IsSizedObservation o.clock → IsFit N c (observes process_of w x o)
  fit-observed true o fits = record { inputs = all_append FitsHappening x.since (Noted o ∷ []) fit.inputs (fits, tt); base = fit.base; saved = fit.saved }
  fit-observed false o fits = record {
    inputs = tt;
    base = λ place. sized-noted N c (shown process_of x) o fits (sized-shown N c x.base x.since fit.inputs (fit.base place));
    saved = fit.saved;
  }

  fit-saved : (w : Bool) (s : State) (rest : List (Happening ClockInput Observation)) (y : ClockBatch) → (nat_lt c N.clocks ≡ true → IsSized s.sets)
      → AllByRecursion FitsHappening rest
      → IsFit N c (goes_on process_of w s rest y)
  fit-saved true s rest y is fits = record { inputs = fits; base = is; saved = is }
  fit-saved false s rest y is fits = record { inputs = tt; base = λ place. sized-after N c s rest fits (is place); saved = is }

  fit-called : (call : Call ClockInput Observation) → FitsCall call → IsFit N c (calls process_of (is_held_at N c) x call)
  fit-called (Handles i) fits = fit-handled (is_held process_of (is_held_at N c) x i) i fits
  fit-called (batching.Observes o) fits = fit-observed (waits x.since) o fits
  fit-called (Confirms count) fits =
      fit-saved (changes_in process_of (after_all process_of x.base (take count x.since)) (drop count x.since)) _ _ _
      (λ place. sized-after N c x.base (take count x.since) (all-take FitsHappening count x.since fit.inputs) (fit.base place))
      (all-drop FitsHappening count x.since fit.inputs)
  fit-called LosesPower fits = record { inputs = tt; base = fit.saved; saved = fit.saved }
  fit-called batching.GivesOut fits = absurd fits
  fit-called (batching.LosesPowerAfter count) fits = absurd fits

  fit-sent : (call : Call ClockInput Observation) → FitsCall call → IsFit N c (record (calls process_of (is_held_at N c) x call) { ready = [] })
  fit-sent call fits = let new = fit-called call fits in record { inputs = new.inputs; base = new.base; saved = new.saved }

abbrev AreFit : Network → BatchingNetwork → Type 0
AreFit N b = (c : ℕ) → IsFit N c (b.clock c)

module _ (N : Network) (b : BatchingNetwork) (fit : AreFit N b) where
  guarded-possible : (t : Bool) (is : List Incident) → (t ≡ true → AllByRecursion IsPossibleAct is) → AllByRecursion IsPossibleAct (if t then is else [])
  guarded-possible true is fits = fits refl
  guarded-possible false is fits = tt

  calls-possible : (c : ℕ) (call : Call ClockInput Observation) → FitsCall call
      → AllByRecursion IsPossibleAct (within N c (incidents_of_call N b c call))
  calls-possible c call fits = guarded-possible (nat_lt c N.clocks) (incidents_of_call N b c call)
      (λ place. events-possible c (events_of (network_clock N c) (is_held_at N c) (b.clock c) call) (call-possible N c (b.clock c) (fit c) call place fits))

  event-possible : (e : Event) (q : Option (ℕ × ClockInput)) → clock_input b.frames e ≡ q → IsInRange e → AllByRecursion IsPossibleAct (incidents_of_event N b e q)
  event-possible e None at' range = (range, tt)
  event-possible e (Some x) at' range =
      events-possible x.0 _ (handles-fit N x.0 (b.clock x.0) (fit x.0) (is_held (network_clock N x.0) (is_held_at N x.0) (b.clock x.0) x.1) x.1
      (subst IsInRange (sym (event-of N b.frames e x at')) range))

  incident-possible : (i : BatchIncident) → IsPossibleBatched i → AllByRecursion IsPossibleAct (incidents_of N b i)
  incident-possible (AsEver (Happens e)) range = event-possible e (clock_input b.frames e) refl range
  incident-possible (AsEver (SaveClock c)) range = calls-possible c (Confirms (length (b.clock c).since)) tt
  incident-possible (AsEver (CrashClock c)) range = guarded-possible (nat_lt c N.clocks) _
      (λ place. (tt, (observed-fits (b.clock c).saved.sets ((fit c).saved place), tt)))
  incident-possible (AsEver (Observes c o)) range = calls-possible c (batching.Observes o) range
  incident-possible (AsEver (SaveSession s)) range = (tt, tt)
  incident-possible (AsEver (CrashSession s)) range = (tt, tt)
  incident-possible (AsEver (GivesUp s)) range = (tt, tt)
  incident-possible (batches.Confirms c count) range = calls-possible c (Confirms count) tt

  fit-at : (c : ℕ) (call : Call ClockInput Observation) → FitsCall call → AreFit N (calls_at N b c call)
  fit-at c call fits d = at_place (λ e z. IsFit N e z) b.clock c (record (calls (network_clock N c) (is_held_at N c) (b.clock c) call) { ready = [] }) d
      (fit-sent N c (b.clock c) (fit c) call fits) (fit d)

  fit-within : (t : Bool) (c : ℕ) (call : Call ClockInput Observation) → FitsCall call → AreFit N (if t then calls_at N b c call else b)
  fit-within true c call fits = fit-at c call fits
  fit-within false c call fits = fit

  event-fit : (e : Event) (q : Option (ℕ × ClockInput)) (r : Option Refusal) → clock_input b.frames e ≡ q → IsInRange e
      → AreFit N (unless_refused r b (happens_at N b e q))
  event-fit e q (Some reason) at' range = fit
  event-fit e None None at' range = fit
  event-fit e (Some x) None at' range = fit-at x.0 (Handles x.1) (subst IsInRange (sym (event-of N b.frames e x at')) range)

  incident-fit : (i : BatchIncident) → IsPossibleBatched i → AreFit N (batch_incident N b i)
  incident-fit (AsEver (Happens e)) range = event-fit e (clock_input b.frames e) (refused N (shown_network N b) e) refl range
  incident-fit (AsEver (SaveClock c)) range = fit-within (nat_lt c N.clocks) c (Confirms (length (b.clock c).since)) tt
  incident-fit (AsEver (CrashClock c)) range = fit-within (nat_lt c N.clocks) c LosesPower tt
  incident-fit (AsEver (Observes c o)) range = fit-within (nat_lt c N.clocks) c (batching.Observes o) range
  incident-fit (AsEver (SaveSession s)) range = fit
  incident-fit (AsEver (CrashSession s)) range = fit
  incident-fit (AsEver (GivesUp s)) range = fit
  incident-fit (batches.Confirms c count) range = fit-within (nat_lt c N.clocks) c (Confirms count) tt

initial-fit : (N : Network) → IsNetwork N → AreFit N (initial_batching N)
initial-fit N network c =
    let sized : nat_lt c N.clocks ≡ true → IsSized (N.start c) =
    (λ place. let start = (network.are_clocks c (ltb-true c N.clocks place)).start in search (arith, start)) in
    record { inputs = tt; base = sized; saved = sized }

incidents-possible : (N : Network) (b : BatchingNetwork) (is : List BatchIncident) → AreFit N b → AllByRecursion IsPossibleBatched is
    → AllByRecursion IsPossibleAct (all_incidents N b is)
incidents-possible N b [] fit possible = tt
incidents-possible N b (i ∷ is) fit possible =
    all_append IsPossibleAct (incidents_of N b i) (all_incidents N (batch_incident N b i) is) (incident-possible N b fit i possible.0)
    (incidents-possible N (batch_incident N b i) is (incident-fit N b fit i possible.0) possible.1)

-- ---- the law

batches-lead : (N : Network) (is : List BatchIncident) → StartConsistent N → HasRoom N (initial_batching N) is
    → shown_network N (after_batch_incidents N (initial_batching N) is) ≡ after_incidents N (initial_restarting N) (all_incidents N (initial_batching N) is)
batches-lead N is start room = incidents-lead N (initial_batching N) is (initial-well N start) room

batches-among-acts : (N : Network) (is : List BatchIncident) → IsPromisedBatching N is
    → ActsAsIfNever N (all_incidents N (initial_batching N) is) (shown_network N (after_batch_incidents N (initial_batching N) is))
batches-among-acts N is promised =
    subst (ActsAsIfNever N (all_incidents N (initial_batching N) is)) (sym (batches-lead N is promised.start promised.room))
    (acts_as_if_never N (all_incidents N (initial_batching N) is) (record {
      network = promised.network;
      possible = incidents-possible N (initial_batching N) is (initial-fit N promised.network) promised.possible;
      timely = promised.timely;
    }))

pub returns-clause-incidents : goal.returns-clause-incidents
returns-clause-incidents c = batches-lead

pub returns-clause-as_if_never : goal.returns-clause-as_if_never
returns-clause-as_if_never c = batches-among-acts
