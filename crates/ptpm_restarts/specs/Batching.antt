-- A network whose clocks go on while they are being saved. What a manager asks of a clock waits there for a save, and comes in late. All
-- else is answered at once.
use Rattle.std.specs.Prelude.{◌≡◌, ℕ, ◌<◌, nat_lt, Bool, if◌then◌else◌, List, [], ◌∷◌, ◌++◌, length, map, Option, Some, None}
use Rattle.std.specs.List.{AllByRecursion}
use Rattle.ptpm_data.specs.Members.{IsConsistent}
use Rattle.ptpm_data.specs.ObservationBack.{Observation}
use Rattle.ptpm_agent.specs.Turn.{State}
use Rattle.ptpm_manager.specs.declared.report.Report.{Report}
use Rattle.ptpm_network.specs.Events.{Event, Deliver, Stranger, Refusal, frame_at, no_room}
use Rattle.ptpm_network.specs.Machine.{strange_frame, with_place}
use Rattle.ptpm_network.specs.Network.{AtPort, AtSession, End, IsNetwork, Network}
use Rattle.ptpm_network.specs.RunningNetwork.{Held, held, initial_network, seen, turn_frames}
use Rattle.ptpm_network.specs.State.{Frame}
use Rattle.ptpm_saved.specs.Saving as saving
use Rattle.ptpm_saved.specs.Saving.{Comes, Fails, Notes, Process, Saves, Sends}
use Rattle.ptpm_saved.specs.SavingClock.{as_observed, clock_process}
use Rattle.ptpm_saved.specs.Batching as batching
use Rattle.ptpm_saved.specs.Batching.{Batch, Call, begun, calls, events_of, shown}
use Rattle.ptpm_saved.specs.BatchingClock.{is_of_manager}
use Rattle.ptpm_restarts.specs.ActsAsIfNever.{IsPossibleAct}
use Rattle.ptpm_restarts.specs.AsIfNever.{AreTimely}
use Rattle.ptpm_restarts.specs.Incidents.{CrashClock, Happens, Incident, Observes, SaveClock, happens, incident, refused}
use Rattle.ptpm_restarts.specs.Restarting.{RestartingNetwork, SessionLog, initial_restarting}
use Rattle.ptpm_restarts.specs.Storage.{Stored, saved_as}

-- ---- a clock of the network

-- a frame that comes in at a port of a clock, and the event by which it does
pub record ClockInput : Type 0 where
  pub event : Event
  pub port : ℕ
  pub frame : Frame

abbrev pub datagram_of : ClockInput → ℕ × List ℕ
datagram_of x = (x.port, x.frame.octets)

-- the process that a clock is, except that it sends frames
abbrev pub network_clock : Network → ℕ → Process State ClockInput Observation Held
network_clock N c = record {
  after = λ s x. (clock_process (N.clock c)).after s (datagram_of x);
  messages = λ s x. map held (turn_frames N s c x.port x.frame);
  changes = λ s x. (clock_process (N.clock c)).changes s (datagram_of x);
  noted = (clock_process (N.clock c)).noted;
  back = (clock_process (N.clock c)).back;
}

abbrev pub is_held_at : Network → ℕ → ClockInput → Bool
is_held_at N c x = is_of_manager (N.clock c) (datagram_of x)

-- ---- the network

pub record BatchingNetwork : Type 0 where
  pub clock : ℕ → Batch State ClockInput Observation Held
  pub session : ℕ → Stored SessionLog
  -- every frame that was sent: a clock sends at once what need not wait
  pub frames : List Held
  pub told : ℕ → List Report

abbrev pub initial_batching : Network → BatchingNetwork
initial_batching N = record {
  clock = λ c. begun ((initial_network N).clock c);
  session = (initial_restarting N).session;
  frames = [];
  told = λ s. [];
}

-- The network without what waits: each clock is as it is shown.
abbrev pub shown_network : Network → BatchingNetwork → RestartingNetwork
shown_network N b = record {
  clock = λ c. saved_as (shown (network_clock N c) (b.clock c));
  session = b.session;
  frames = b.frames;
  waiting = [];
  told = b.told;
}

-- ---- what may happen

-- Anything that may happen in any network. A clock saves there by an image of all that it has.
pub data BatchIncident : Type 0 where
  AsEver : (incident : Incident) → BatchIncident
  -- the host of a clock says that an image is saved, made after the first `count` of what happened since. If no host says so and a restart
  -- finds that image, it is this and then a crash.
  Confirms : (clock : ℕ) → (count : ℕ) → BatchIncident

abbrev pub sends_ready : BatchingNetwork → ℕ → Batch State ClockInput Observation Held → BatchingNetwork
sends_ready b c x = record b { clock = with_place b.clock c (record x { ready = [] }); frames = b.frames ++ x.ready }

abbrev pub calls_at : Network → BatchingNetwork → ℕ → Call ClockInput Observation → BatchingNetwork
calls_at N b c call = sends_ready b c (calls (network_clock N c) (is_held_at N c) (b.clock c) call)

-- of a clock that there is
abbrev pub calls_within : Network → BatchingNetwork → ℕ → Call ClockInput Observation → BatchingNetwork
calls_within N b c call = if nat_lt c N.clocks then calls_at N b c call else b

-- the clock at which a frame comes in by an event, if it comes in at one
abbrev pub input_at : Event → Held → End → Option (ℕ × ClockInput)
input_at e h (AtPort c port) = Some (c, record { event = e; port = port; frame = seen h })
input_at e h (AtSession s) = None

abbrev pub input_of : Event → Option Held → Option (ℕ × ClockInput)
input_of e None = None
input_of e (Some h) = input_at e h h.end

abbrev pub clock_input : List Held → Event → Option (ℕ × ClockInput)
clock_input frames (Deliver n) = input_of (Deliver n) (frame_at frames n)
clock_input frames (Stranger c port datagram) =
    Some (c, record { event = Stranger c port datagram; port = port; frame = strange_frame c port datagram })
clock_input frames _ = None

-- sessions and frames become those of this network
abbrev pub with_sessions_of : BatchingNetwork → RestartingNetwork → BatchingNetwork
with_sessions_of b k = record b { session = k.session; frames = k.frames; told = k.told }

abbrev pub happens_at : Network → BatchingNetwork → Event → Option (ℕ × ClockInput) → BatchingNetwork
happens_at N b e None = with_sessions_of b (happens N (shown_network N b) e)
happens_at N b e (Some x) = calls_at N b x.0 (batching.Handles x.1)

abbrev pub unless_refused : Option Refusal → BatchingNetwork → BatchingNetwork → BatchingNetwork
unless_refused None b next = next
unless_refused (Some reason) b next = b

abbrev pub batch_incident : Network → BatchingNetwork → BatchIncident → BatchingNetwork
batch_incident N b (AsEver (Happens e)) =
    unless_refused (refused N (shown_network N b) e) b (happens_at N b e (clock_input b.frames e))
batch_incident N b (AsEver (SaveClock c)) = calls_within N b c (batching.Confirms (length (b.clock c).since))
batch_incident N b (AsEver (CrashClock c)) = calls_within N b c batching.LosesPower
batch_incident N b (AsEver (Observes c o)) = calls_within N b c (batching.Observes o)
batch_incident N b (AsEver i) = with_sessions_of b (incident N (shown_network N b) i)
batch_incident N b (Confirms c count) = calls_within N b c (batching.Confirms count)

abbrev pub after_batch_incidents : Network → BatchingNetwork → List BatchIncident → BatchingNetwork
after_batch_incidents N b [] = b
after_batch_incidents N b (i ∷ is) = after_batch_incidents N (batch_incident N b i) is

-- ---- the incidents of a network that saves before it answers

-- what happens at a clock
abbrev pub incidents_at : ℕ → List (saving.Event ClockInput Observation) → List Incident
incidents_at c [] = []
incidents_at c (Comes x ∷ es) = Happens x.event ∷ incidents_at c es
incidents_at c (Notes o ∷ es) = Observes c o ∷ incidents_at c es
incidents_at c (Saves ∷ es) = SaveClock c ∷ incidents_at c es
incidents_at c (Sends ∷ es) = incidents_at c es
incidents_at c (Fails ∷ es) = CrashClock c ∷ incidents_at c es

abbrev pub incidents_of_call : Network → BatchingNetwork → ℕ → Call ClockInput Observation → List Incident
incidents_of_call N b c call = incidents_at c (events_of (network_clock N c) (is_held_at N c) (b.clock c) call)

abbrev pub within : Network → ℕ → List Incident → List Incident
within N c is = if nat_lt c N.clocks then is else []

abbrev pub incidents_of_event : Network → BatchingNetwork → Event → Option (ℕ × ClockInput) → List Incident
incidents_of_event N b e None = Happens e ∷ []
incidents_of_event N b e (Some x) = incidents_of_call N b x.0 (batching.Handles x.1)

-- A crash also loses what was observed since the save. That is one more observation, after the crash.
abbrev pub incidents_of : Network → BatchingNetwork → BatchIncident → List Incident
incidents_of N b (AsEver (Happens e)) = incidents_of_event N b e (clock_input b.frames e)
incidents_of N b (AsEver (SaveClock c)) = within N c (incidents_of_call N b c (batching.Confirms (length (b.clock c).since)))
incidents_of N b (AsEver (CrashClock c)) =
    within N c (incidents_of_call N b c batching.LosesPower ++ Observes c (as_observed (b.clock c).saved.sets) ∷ [])
incidents_of N b (AsEver (Observes c o)) = within N c (incidents_of_call N b c (batching.Observes o))
incidents_of N b (AsEver i) = i ∷ []
incidents_of N b (Confirms c count) = within N c (incidents_of_call N b c (batching.Confirms count))

abbrev pub all_incidents : Network → BatchingNetwork → List BatchIncident → List Incident
all_incidents N b [] = []
all_incidents N b (i ∷ is) = incidents_of N b i ++ all_incidents N (batch_incident N b i) is

-- ---- the premises

-- the data sets that each clock starts with are such as a clock has
abbrev pub StartConsistent : Network → Type 0
StartConsistent N = (c : ℕ) → c < N.clocks → IsConsistent (N.start c)

-- there is room for the frames that are sent
abbrev pub HasRoom : Network → BatchingNetwork → List BatchIncident → Type 0
HasRoom N b [] = Unit {0}
HasRoom N b (i ∷ is) = (no_room (batch_incident N b i).frames ≡ None) × HasRoom N (batch_incident N b i) is

abbrev pub IsPossibleBatched : BatchIncident → Type 0
IsPossibleBatched (AsEver i) = IsPossibleAct i
IsPossibleBatched (Confirms c count) = Unit {0}

-- Such a network as the headline's, what a program can hand in, and no frame that is late when it comes in. When anyone saves, crashes,
-- gives up or observes is free.
pub record IsPromisedBatching (N : Network) (is : List BatchIncident) : Type 0 where
  pub network : IsNetwork N
  pub start : StartConsistent N
  pub possible : AllByRecursion IsPossibleBatched is
  pub room : HasRoom N (initial_batching N) is
  pub timely : AreTimely N (initial_restarting N) (all_incidents N (initial_batching N) is)
