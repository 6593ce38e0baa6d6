-- A clock that takes datagrams while it is being saved. It is a process. Its inputs are what comes in, with what the device says of it, and
-- what the device's owner asks. Its notes are what its host observes. It has its device make a change once: that change is under way
-- until the device has decided (this project's profile).
use Rattle.std.specs.Prelude.{◌&&◌, ℕ, Bool, true, false, not, is_some, List, [], if◌then◌else◌, Option, Some, None}
use Rattle.ptpm_codec.specs.Layout.{message_octets}
use Rattle.ptpm_data.specs.ObservationBack.{Observation}
use Rattle.ptpm_data.specs.Request.{RequestValue}
use Rattle.ptpm_agent.specs.Observing.{moved_state}
use Rattle.ptpm_agent.specs.Turn.{State, Turned, outbox_of}
use Rattle.ptpm_device.specs.Asking.{asked}
use Rattle.ptpm_device.specs.Changing.{changed_state}
use Rattle.ptpm_device.specs.Saying.{Say, turn_said}
use Rattle.ptpm_saved.specs.Saving.{Process}
use Rattle.ptpm_saved.specs.SavingClock.{Datagram, as_observed, is_new}
use Rattle.ptpm_saved.specs.Batching.{Batch}
use Rattle.ptpm_saved.specs.BatchingClock.{is_of_manager}
use Rattle.ptpm_host.specs.Changing.{owner_turn}
use Rattle.ptpm_host.specs.Clock.{DeviceClock}

-- the clock's own state, and the request that its device was asked to carry out, or is to be asked, with its port
pub record ClockState : Type 0 where
  pub state : State
  pub under_way : Option Datagram

pub data Coming : Type 0 where
  -- a datagram, at the port that it came in at, with what the device says of it
  Heard : (port : ℕ) → (datagram : List ℕ) → (say : Say) → Coming
  -- one of the device's owner
  OfOwner : (port : ℕ) → (datagram : List ℕ) → Coming
  -- a change that the owner makes without a message
  Changed : (request : RequestValue) → Coming
  -- a datagram; a change that the device would be asked for is under way from now on
  Undertakes : (port : ℕ) → (datagram : List ℕ) → Coming
  -- what the device says of what is under way
  Decides : (say : Say) → Coming

-- the turn of a datagram; that of the owner asks no device
abbrev pub turn_of : DeviceClock → State → ℕ → List ℕ → Say → Bool → Turned
turn_of c s port datagram say true = owner_turn c.clock s port datagram
turn_of c s port datagram say false = turn_said c.rows c.clock s say port datagram

abbrev pub datagram_in : ℕ → List ℕ → Say → Bool → Coming
datagram_in port datagram say true = OfOwner port datagram
datagram_in port datagram say false = Heard port datagram say

-- a change is undertaken if the device would be asked for it and nothing is under way
abbrev pub undertakes : DeviceClock → ClockState → List ℕ → Bool
undertakes c s datagram = not (is_some s.under_way) && is_some (asked c.rows c.clock s.state datagram)

abbrev pub undertaken : DeviceClock → ClockState → ℕ → List ℕ → ClockState
undertaken c s port datagram =
    if undertakes c s datagram then record s { under_way = Some (port, message_octets datagram) } else s

-- the turn of what is under way, if anything is
abbrev pub decided : DeviceClock → State → Say → Option Datagram → State
decided c s say None = s
decided c s say (Some x) = (turn_said c.rows c.clock s say x.0 x.1).next

abbrev pub decided_messages : DeviceClock → State → Say → Option Datagram → List (ℕ × List ℕ)
decided_messages c s say None = []
decided_messages c s say (Some x) = outbox_of (turn_said c.rows c.clock s say x.0 x.1)

abbrev pub after_coming : DeviceClock → ClockState → Coming → ClockState
after_coming c s (Heard port datagram say) = record s { state = (turn_said c.rows c.clock s.state say port datagram).next }
after_coming c s (OfOwner port datagram) = record s { state = (owner_turn c.clock s.state port datagram).next }
after_coming c s (Changed request) = record s { state = changed_state request s.state }
after_coming c s (Undertakes port datagram) = undertaken c s port datagram
after_coming c s (Decides say) = record { state = decided c s.state say s.under_way; under_way = None }

abbrev pub messages_for : DeviceClock → ClockState → Coming → List (ℕ × List ℕ)
messages_for c s (Heard port datagram say) = outbox_of (turn_said c.rows c.clock s.state say port datagram)
messages_for c s (OfOwner port datagram) = outbox_of (owner_turn c.clock s.state port datagram)
messages_for c s (Changed request) = []
messages_for c s (Undertakes port datagram) = []
messages_for c s (Decides say) = decided_messages c s.state say s.under_way

abbrev pub is_change_of : DeviceClock → ClockState → Coming → Bool
is_change_of c s (Heard port datagram say) = is_new (turn_said c.rows c.clock s.state say port datagram).verdict
is_change_of c s (OfOwner port datagram) = is_new (owner_turn c.clock s.state port datagram).verdict
is_change_of c s (Changed request) = true
is_change_of c s (Undertakes port datagram) = undertakes c s datagram
is_change_of c s (Decides say) = is_some s.under_way

abbrev pub coming_process : DeviceClock → Process ClockState Coming Observation (ℕ × List ℕ)
coming_process c = record {
  after = after_coming c;
  messages = messages_for c;
  changes = is_change_of c;
  noted = λ s o. record s { state = moved_state o.clock o.ports s.state };
  back = λ s. as_observed s.state.sets;
}

-- What waits while something is unsaved: what a manager asks of this clock alone, and all that the owner asks. So do undertakings and
-- decisions.
abbrev pub is_held_by : DeviceClock → Coming → Bool
is_held_by c (Heard port datagram say) = is_of_manager c.clock (port, datagram)
is_held_by c (OfOwner port datagram) = true
is_held_by c (Changed request) = true
is_held_by c (Undertakes port datagram) = true
is_held_by c (Decides say) = true

-- this clock, as it is saved in batches
abbrev pub ClockBatch : Type 0
ClockBatch = Batch ClockState Coming Observation (ℕ × List ℕ)
