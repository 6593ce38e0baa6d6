-- What may happen in a network whose clocks and sessions save and crash, and what it makes of it.
use Rattle.std.specs.Prelude.{ℕ, nat_lt, List, [], ◌∷◌, ◌++◌, Option, Some, None, if◌then◌else◌}
use Rattle.std.specs.Option.{option_or}
use Rattle.std.specs.Result.{result_err}
use Rattle.ptpm_data.specs.ObservationBack.{Observation}
use Rattle.ptpm_agent.specs.Observing.{moved_state}
use Rattle.ptpm_manager.specs.declared.error.GiveUpRefusal.{GiveUpRefusal}
use Rattle.ptpm_manager.specs.Ask.{request_of}
use Rattle.ptpm_manager.specs.Receiving.{received_of}
use Rattle.ptpm_manager.specs.Session.{begun, give_up_refusal, given_up, resumed, retuned}
use Rattle.ptpm_network.specs.Events.{Event, Begin, Send, Resume, Retune, Deliver, Replay, Stranger, Refusal, frame_at, no_room}
use Rattle.ptpm_network.specs.Machine.{strange_frame, with_place}
use Rattle.ptpm_network.specs.Network.{AtPort, AtSession, End, Network}
use Rattle.ptpm_network.specs.RunningNetwork.{Held, network_event, seen}
use Rattle.ptpm_restarts.specs.Restarting.{RestartingNetwork, begins, hears, held_frames, notes, running, sends, takes_turn, waiting_at, waiting_elsewhere, with_log}
use Rattle.ptpm_restarts.specs.Storage.{noted, restored, saved}

pub data Incident : Type 0 where
  -- what may happen in any network
  Happens : (event : Event) → Incident
  SaveClock : (clock : ℕ) → Incident
  SaveSession : (session : ℕ) → Incident
  -- it loses what is unsaved, and goes on from its last save
  CrashClock : (clock : ℕ) → Incident
  CrashSession : (session : ℕ) → Incident
  -- a session gives up its unanswered request
  GivesUp : (session : ℕ) → Incident
  -- a host reports what it observes of its clock; if this is refused, nothing moves
  Observes : (clock : ℕ) → (observation : Observation) → Incident

-- ---- saves and crashes

-- what waited for the save is sent
abbrev pub saves_clock : RestartingNetwork → ℕ → RestartingNetwork
saves_clock k c = record k {
  clock = with_place k.clock c (saved (k.clock c));
  frames = k.frames ++ waiting_at c k.waiting;
  waiting = waiting_elsewhere c k.waiting;
}

-- what waits for a save is lost in a crash
abbrev pub crashes_clock : RestartingNetwork → ℕ → RestartingNetwork
crashes_clock k c = record k {
  clock = with_place k.clock c (restored (k.clock c));
  waiting = waiting_elsewhere c k.waiting;
}

-- ---- events

-- frames that wait need room too, if an event makes more
abbrev pub no_room_for : RestartingNetwork → Event → Option Refusal
no_room_for k (Begin s ask) = None
no_room_for k (Resume s attempts) = None
no_room_for k (Retune s domain) = None
no_room_for k _ = no_room (held_frames k)

-- for what reason it is refused: as in the network that runs, or for want of room
abbrev pub refused : Network → RestartingNetwork → Event → Option Refusal
refused N k e = option_or (result_err (network_event N (running k) e)) (no_room_for k e)

abbrev pub comes_in : Network → RestartingNetwork → Held → End → RestartingNetwork
comes_in N k h (AtPort c port) = takes_turn N k c port (seen h)
comes_in N k h (AtSession s) = hears k s (received_of (k.session s).live.session h.octets)

abbrev pub delivered : Network → RestartingNetwork → Option Held → RestartingNetwork
delivered N k None = k
delivered N k (Some h) = comes_in N k h h.end

-- a copy of a frame that was sent is on its way to an end
abbrev pub replayed : RestartingNetwork → Option Held → End → RestartingNetwork
replayed k None end = k
replayed k (Some h) end = record k { frames = k.frames ++ record h { end = end } ∷ [] }

abbrev pub happens : Network → RestartingNetwork → Event → RestartingNetwork
happens N k (Begin s ask) = begins k s (begun (k.session s).live.session (request_of ask))
happens N k (Send s) = sends (k.session s).is_unsaved N k s
happens N k (Resume s attempts) = notes k s (resumed (k.session s).live.session attempts)
happens N k (Retune s domain) = notes k s (retuned (k.session s).live.session domain)
happens N k (Deliver n) = delivered N k (frame_at k.frames n)
happens N k (Replay n end) = replayed k (frame_at k.frames n) end
happens N k (Stranger c port datagram) = takes_turn N k c port (strange_frame c port datagram)

abbrev pub unless : Option Refusal → RestartingNetwork → RestartingNetwork → RestartingNetwork
unless None k next = next
unless (Some reason) k next = k

-- ---- giving up, and observing

-- to give up a request is a change; the save of the next one is enough for it
abbrev pub lets_go : Option GiveUpRefusal → RestartingNetwork → ℕ → RestartingNetwork
lets_go None k s = begins k s (given_up (k.session s).live.session)
lets_go (Some reason) k s = k

abbrev pub gives_up : Network → RestartingNetwork → ℕ → RestartingNetwork
gives_up N k s = if nat_lt s N.sessions then lets_go (give_up_refusal (k.session s).live.session) k s else k

-- Nothing has to be saved for an observation. A clock that crashes may have lost more of what was observed than is lost here. Then
-- that is one more observation, after the crash.
abbrev pub observes : Network → RestartingNetwork → ℕ → Observation → RestartingNetwork
observes N k c o =
    if nat_lt c N.clocks
    then record k { clock = with_place k.clock c (noted (k.clock c) (moved_state o.clock o.ports (k.clock c).live)) } else k

-- ---- one incident, and a list of them

abbrev pub incident : Network → RestartingNetwork → Incident → RestartingNetwork
incident N k (Happens e) = unless (refused N k e) k (happens N k e)
incident N k (SaveClock c) = saves_clock k c
incident N k (SaveSession s) = with_log k s (saved (k.session s))
incident N k (CrashClock c) = crashes_clock k c
incident N k (CrashSession s) = with_log k s (restored (k.session s))
incident N k (GivesUp s) = gives_up N k s
incident N k (Observes c o) = observes N k c o

abbrev pub after_incidents : Network → RestartingNetwork → List Incident → RestartingNetwork
after_incidents N k [] = k
after_incidents N k (i ∷ is) = after_incidents N (incident N k i) is
