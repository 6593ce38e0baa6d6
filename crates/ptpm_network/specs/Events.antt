-- What may happen in a network, and which events its state refuses.
use Rattle.std.specs.Prelude.{ℕ, ◌<◌, ◌*◌, ◌-◌, ◌^◌, ◌==◌, ◌&&◌, ◌||◌, nat_lt, nat_le, not, Bool, List, [], ◌∷◌, length, slice_get, Option, Some, None, option_map, if◌then◌else◌}
use Rattle.std.specs.List.{list_any, range_with_len}
use Rattle.std.specs.Option.{option_or}
use Rattle.ptpm_codec.specs.declared.identity.PortIdentity.{PortIdentity}
use Rattle.ptpm_codec.specs.Identity.{same_clock, same_identity}
use Rattle.ptpm_codec.specs.Layout.{octet, source_port_identity}
use Rattle.ptpm_data.specs.Members.{has_port}
use Rattle.ptpm_manager.specs.declared.ask.Ask.{Ask}
use Rattle.ptpm_manager.specs.declared.error.BeginError.{BeginError}
use Rattle.ptpm_manager.specs.declared.error.SendError.{SendError}
use Rattle.ptpm_manager.specs.declared.error.SendError.TheVariants as sends
use Rattle.ptpm_codec.specs.Ordered.{first_of}
use Rattle.ptpm_manager.specs.Session.{begin_refusal, send_refusal}
use Rattle.ptpm_network.specs.Network.{AtPort, AtSession, End, Network, manager}
use Rattle.ptpm_network.specs.State.{NetworkState, is_idle, session_value}

pub data Event : Type 0 where
  -- a session begins a request
  Begin : (session : ℕ) → (ask : Ask) → Event
  -- it sends its unanswered request, once more or for the first time
  Send : (session : ℕ) → Event
  -- it may send it this often from now on
  Resume : (session : ℕ) → (attempts : ℕ) → Event
  -- it sends and listens in another domain from now on
  Retune : (session : ℕ) → (domain : ℕ) → Event
  -- a frame comes in at its end, by its number from 1 on; any frame, any number of times
  Deliver : (frame : ℕ) → Event
  -- anybody who heard a frame sends a copy of it to an end: to its own again, or to any other
  Replay : (frame : ℕ) → (end : End) → Event
  -- a stranger sends a datagram to a port of a clock
  Stranger : (clock : ℕ) → (port : ℕ) → (datagram : List ℕ) → Event

pub data Refusal : Type 0 where
  NoSuchName : Refusal
  NoSuchFrame : Refusal
  Forged : Refusal
  FramesAtMaximum : Refusal
  BeginRefused : (error : BeginError) → Refusal
  SendRefused : (error : SendError) → Refusal

abbrev pub no_session : Network → ℕ → Option Refusal
no_session N s = first_of ((not (nat_lt s N.sessions), NoSuchName) ∷ [])

abbrev pub no_port : Network → ℕ → ℕ → Option Refusal
no_port N c port =
    first_of ((not (nat_lt c N.clocks && has_port port (N.start c)), NoSuchName) ∷ [])

abbrev pub no_end : Network → End → Option Refusal
no_end N (AtPort c port) = no_port N c port
no_end N (AtSession s) = no_session N s

-- frame n, counted from 1
abbrev pub frame_at : {A : Type 0} → List A → ℕ → Option A
frame_at frames n = if n == 0 then None else slice_get frames (n - 1)

abbrev pub no_frame : {A : Type 0} → Option A → Option Refusal
no_frame None = Some NoSuchFrame
no_frame (Some f) = None

-- whether it is the identity of a clock or of a session
abbrev pub is_taken : Network → PortIdentity → Bool
is_taken N who =
    list_any (λ c. same_clock who.clock (N.clock c).identity) (range_with_len 0 N.clocks)
    || list_any (λ s. same_identity who (manager N s)) (range_with_len 0 N.sessions)

-- The datagram has such an identity at the place where a message has its source, whether it is a message or not. In a shorter one
-- nothing is there.
abbrev pub is_forged : Network → List ℕ → Bool
is_forged N datagram = nat_le 30 (length datagram) && is_taken N (source_port_identity datagram)

abbrev pub forged : Network → List ℕ → Option Refusal
forged N datagram = first_of ((is_forged N datagram, Forged) ∷ [])

-- The frames that an event makes at most, if no clock has more ports than this. A clock sends a copy at each port but one, and an
-- answer of each. A link takes each of these messages to at most fifteen other ends.
abbrev pub frames_of_event : ℕ → ℕ
frames_of_event most = 15 * (2 * most - 1)

-- over this many frames held, nothing is sent or delivered
abbrev pub frames_limit : ℕ
frames_limit = 399775

abbrev pub no_room : {A : Type 0} → List A → Option Refusal
no_room frames = first_of ((nat_lt frames_limit (length frames), FramesAtMaximum) ∷ [])

-- why a session does not begin, send or resume
abbrev pub begin_refused : Network → NetworkState → ℕ → Ask → Option Refusal
begin_refused N w s a = option_map BeginRefused (begin_refusal (session_value (N.session s) (w.session s)) a)

abbrev pub send_refused : Network → NetworkState → ℕ → Option Refusal
send_refused N w s = option_map SendRefused (send_refusal (session_value (N.session s) (w.session s)))

abbrev pub resume_refused : NetworkState → ℕ → Option Refusal
resume_refused w s = first_of ((is_idle (w.session s), SendRefused sends.Idle) ∷ [])

-- the first reason to refuse an event; want of memory is none
unfoldable pub refusal : Network → NetworkState → Event → Option Refusal
refusal N w (Begin s ask) = option_or (no_session N s) (begin_refused N w s ask)
refusal N w (Send s) = option_or (no_session N s) (option_or (no_room w.frames) (send_refused N w s))
refusal N w (Resume s attempts) = option_or (no_session N s) (resume_refused w s)
refusal N w (Retune s domain) = no_session N s
refusal N w (Deliver n) = option_or (no_frame (frame_at w.frames n)) (no_room w.frames)
refusal N w (Replay n end) =
    option_or (no_frame (frame_at w.frames n)) (option_or (no_end N end) (no_room w.frames))
refusal N w (Stranger c port datagram) =
    option_or (no_port N c port) (option_or (forged N datagram) (no_room w.frames))

-- an event that a program can hand in: a managementId has 16 bits, and an octet has eight
abbrev pub IsInRange : Event → Type 0
IsInRange (Begin s ask) = ask.id < 2 ^ 16
IsInRange (Stranger c port datagram) = (place : ℕ) → octet place datagram < 256
IsInRange _ = Unit {0}
