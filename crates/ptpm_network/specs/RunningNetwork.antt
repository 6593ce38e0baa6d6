-- A running network: what its clocks and sessions can see, sequenceIds and octets, and what it makes of an event.
use Rattle.std.specs.Prelude.{ℕ, not, List, [], ◌∷◌, ◌++◌, length, map, Option, Some, None, option_map, Result, Ok, Err}
use Rattle.ptpm_codec.specs.declared.message.Message.{Message}
use Rattle.ptpm_codec.specs.Canonical.{canonical}
use Rattle.ptpm_codec.specs.Ordered.{first_of}
use Rattle.ptpm_agent.specs.Laws.{initial_clock_state}
use Rattle.ptpm_agent.specs.declared.verdict.Verdict.{Verdict}
use Rattle.ptpm_agent.specs.Once.{copy_of}
use Rattle.ptpm_agent.specs.Turn.{State, turn}
use Rattle.ptpm_manager.specs.declared.report.Report.{Report}
use Rattle.ptpm_manager.specs.declared.error.SendError.TheVariants as sends
use Rattle.ptpm_manager.specs.declared.receiving.Received.{Received}
use Rattle.ptpm_manager.specs.declared.receiving.Received.TheVariants as received
use Rattle.ptpm_manager.specs.Ask.{request_of}
use Rattle.ptpm_manager.specs.Receiving.{received_of}
use Rattle.ptpm_manager.specs.Session.{SessionValue, answered, begin_refusal, begun, due_message, is_waiting, resumed, retuned, send_refusal, sent}
use Rattle.ptpm_network.specs.Events.{Event, Begin, Send, Resume, Retune, Deliver, Replay, Stranger, Refusal, BeginRefused, SendRefused, NoSuchFrame, forged, frame_at, no_end, no_port, no_room, no_session}
use Rattle.ptpm_network.specs.Machine.{answer_origin, delivery, forwarded_frames, reply_frames, strange_frame, with_place}
use Rattle.ptpm_network.specs.Network.{End, AtPort, AtSession, Network, peers}
use Rattle.ptpm_network.specs.State.{Frame, Origin, RequestOf, initial_session_state, session_value}

-- a frame as it is kept; only the machine knows its first hops and its forwardings
pub record Held : Type 0 where
  pub end : End
  pub octets : List ℕ
  pub origin : Origin

abbrev pub held : Frame → Held
held f = record { end = f.end; octets = f.octets; origin = f.origin }

pub record RunningNetwork : Type 0 where
  pub clock : ℕ → State
  pub session : ℕ → SessionValue
  pub reports : ℕ → List Report
  pub frames : List Held

-- the network as it starts
abbrev pub initial_network : Network → RunningNetwork
initial_network N = record {
  clock = λ c. initial_clock_state (N.start c);
  session = λ s. session_value (N.session s) (initial_session_state (N.session s));
  reports = λ s. [];
  frames = [];
}

-- what a clock sends in its turn at a frame, as frames: the reply to a numbered copy belongs to the copy's request
abbrev pub turn_frames : Network → State → ℕ → ℕ → Frame → List Frame
turn_frames N s c ingress f =
    forwarded_frames N c f (turn (N.clock c) s ingress f.octets).forwards
    ++ reply_frames N c
    (answer_origin f.origin (copy_of (N.clock c) (length s.sets.ports) (delivery ingress f)))
    (turn (N.clock c) s ingress f.octets).replies

-- a clock has taken its turn at a frame
abbrev pub after_turn : Network → RunningNetwork → ℕ → ℕ → Frame → RunningNetwork
after_turn N r c ingress f = record r {
  clock = with_place r.clock c (turn (N.clock c) (r.clock c) ingress f.octets).next;
  frames = r.frames ++ map held (turn_frames N (r.clock c) c ingress f);
}

-- a frame as whoever it reaches sees it: only the machine has its first hops and its forwardings
abbrev pub seen : Held → Frame
seen h = record { end = h.end; octets = h.octets; origin = h.origin; first_hops = 0; forwardings = 0 }

-- one message for each of these ends
abbrev pub posted : List End → List ℕ → Origin → List Held
posted ends octets origin = map (λ end. record { end = end; octets = octets; origin = origin }) ends

-- ---- sessions

abbrev pub sent_posted : List End → ℕ → ℕ → Option Message → List Held
sent_posted ends s k None = []
sent_posted ends s k (Some v) = posted ends (canonical v) (RequestOf s k)

-- a session is another, and nothing else is
abbrev pub with_session_value : RunningNetwork → ℕ → SessionValue → RunningNetwork
with_session_value r s value = record r { session = with_place r.session s value }

-- a session sends its unanswered request, which is the last one begun
abbrev pub sends_in : Network → RunningNetwork → ℕ → RunningNetwork
sends_in N r s = record r {
  session = with_place r.session s (sent (r.session s));
  frames = r.frames
      ++ sent_posted (peers N.links (AtSession s)) s (r.session s).issued (due_message (r.session s));
}

-- a session takes a datagram for its answer, or ignores it
abbrev pub hears : RunningNetwork → ℕ → Received → RunningNetwork
hears r s (received.Answered report) = record r {
  session = with_place r.session s (answered (r.session s));
  reports = with_place r.reports s (r.reports s ++ report ∷ []);
}
hears r s (received.Ignored reason) = r

abbrev pub nothing_to_resume : SessionValue → Option Refusal
nothing_to_resume s = first_of ((not (is_waiting s), SendRefused sends.Idle) ∷ [])

-- ---- one event

-- What an event does if it is not refused. A session did what it was asked, or a clock or a session decided this about a
-- datagram.
pub data Deed : Type 0 where
  Done : Deed
  Decided : (verdict : Verdict) → Deed
  Heard : (received : Received) → Deed

-- what it does, and the network after it
pub record Happened : Type 0 where
  pub deed : Deed
  pub network : RunningNetwork

-- it is refused for this reason, or, if there is none, what follows says what happens
abbrev pub unless_refused : Option Refusal → Result Happened Refusal → Result Happened Refusal
unless_refused None behind = behind
unless_refused (Some reason) behind = Err reason

-- the network becomes this, and nothing is reported
abbrev pub becomes : RunningNetwork → Result Happened Refusal
becomes r = Ok (record { deed = Done; network = r })

-- a session becomes another by an act of its own, if it does not refuse
abbrev pub acts : Network → RunningNetwork → ℕ → Option Refusal → SessionValue → Result Happened Refusal
acts N r s refused value = unless_refused (no_session N s) (unless_refused refused (becomes (with_session_value r s value)))

-- a clock takes its turn at a frame
abbrev pub takes_turn : Network → RunningNetwork → ℕ → ℕ → Frame → Happened
takes_turn N r c ingress f = record {
  deed = Decided (turn (N.clock c) (r.clock c) ingress f.octets).verdict;
  network = after_turn N r c ingress f;
}

-- a frame reaches its end
abbrev pub reaches : Network → RunningNetwork → Held → End → Happened
reaches N r h (AtPort c port) = takes_turn N r c port (seen h)
reaches N r h (AtSession s) = record {
  deed = Heard (received_of (r.session s) h.octets);
  network = hears r s (received_of (r.session s) h.octets);
}

abbrev pub delivers : Network → RunningNetwork → Option Held → Result Happened Refusal
delivers N r None = Err NoSuchFrame
delivers N r (Some h) = unless_refused (no_room r.frames) (Ok (reaches N r h h.end))

-- a copy of a frame is on its way to an end, whoever sent it there
abbrev pub replays : Network → RunningNetwork → Option Held → End → Result Happened Refusal
replays N r None end = Err NoSuchFrame
replays N r (Some h) end =
    unless_refused (no_end N end)
    (unless_refused (no_room r.frames) (becomes (record r { frames = r.frames ++ record h { end = end } ∷ [] })))

-- What a running network makes of an event: it happens, or is refused for the first reason that holds. Want of memory is none.
unfoldable pub network_event : Network → RunningNetwork → Event → Result Happened Refusal
network_event N r (Begin s a) =
    acts N r s (option_map BeginRefused (begin_refusal (r.session s) a)) (begun (r.session s) (request_of a))
network_event N r (Resume s attempts) =
    acts N r s (nothing_to_resume (r.session s)) (resumed (r.session s) attempts)
network_event N r (Retune s domain) = acts N r s None (retuned (r.session s) domain)
network_event N r (Send s) =
    unless_refused (no_session N s)
    (unless_refused (no_room r.frames)
    (unless_refused (option_map SendRefused (send_refusal (r.session s))) (becomes (sends_in N r s))))
network_event N r (Deliver n) = delivers N r (frame_at r.frames n)
network_event N r (Replay n end) = replays N r (frame_at r.frames n) end
network_event N r (Stranger c port datagram) =
    unless_refused (no_port N c port)
    (unless_refused (forged N datagram)
    (unless_refused (no_room r.frames) (Ok (takes_turn N r c port (strange_frame c port datagram)))))

-- a refused event changes nothing
abbrev pub network_after : RunningNetwork → Result Happened Refusal → RunningNetwork
network_after r (Ok happened) = happened.network
network_after r (Err reason) = r

abbrev pub goes_on : RunningNetwork → Result Happened Refusal → (RunningNetwork → RunningNetwork) → RunningNetwork
goes_on r (Ok happened) others = others happened.network
goes_on r (Err reason) others = r

-- of a list of events, up to the first that is refused
abbrev pub network_run : Network → RunningNetwork → List Event → RunningNetwork
network_run N r [] = r
network_run N r (e ∷ es) = goes_on r (network_event N r e) (λ next. network_run N next es)
