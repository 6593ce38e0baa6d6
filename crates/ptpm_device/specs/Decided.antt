-- At-most-once execution at a clock whose device has a say (this project's profile). Each accepted request is applied once, or
-- answered once by the device. That is an error of its choice, or the value of an id that the clock lacks. Each copy of it gets that
-- one reply.
use Rattle.std.specs.Prelude.{◌≡◌, ℕ, if◌then◌else◌, List, [], ◌∷◌, Option, Some, None}
use Rattle.std.specs.Option.{option_or}
use Rattle.ptpm_codec.specs.declared.identity.PortIdentity.{PortIdentity}
use Rattle.ptpm_data.specs.declared.observation.ClockObservation.{ClockObservation}
use Rattle.ptpm_data.specs.declared.observation.PortObservation.{PortObservation}
use Rattle.ptpm_data.specs.Reply.{ReplyValue}
use Rattle.ptpm_data.specs.Request.{RequestValue}
use Rattle.ptpm_agent.specs.Observing.{moved_history, moved_state}
use Rattle.ptpm_agent.specs.Once.{Delivery, History, RequestCopy, after_copy, copy_of, due_reply, joins}
use Rattle.ptpm_agent.specs.Turn.{Clock, State}
use Rattle.ptpm_agent.specs.Window.{IsInTime}
use Rattle.ptpm_device.specs.declared.relayed.RelayedId.{RelayedId}
use Rattle.ptpm_device.specs.Changing.{changed_history, changed_state}
use Rattle.ptpm_device.specs.Saying.{Say, reply_said, turn_said}

-- ---- what happens at a clock

pub data Happening : Type 0 where
  -- a datagram comes in at a port, and this is what the device says of it
  Delivered : (delivery : Delivery) → (say : Say) → Happening
  -- the host reports what it observes; if this is refused, nothing moves
  Observed : (clock : ClockObservation) → (ports : List PortObservation) → Happening
  -- the device's owner asks for a change at the device itself; if this is refused, nothing changes
  Changed : (request : RequestValue) → Happening

abbrev pub after_happening : List RelayedId → Clock → State → Happening → State
after_happening rows c s (Delivered x say) = (turn_said rows c s say x.ingress x.datagram).next
after_happening rows c s (Observed o ports) = moved_state o ports s
after_happening rows c s (Changed q) = changed_state q s

-- a clock after all of these, in their order
abbrev pub after_happenings : List RelayedId → Clock → State → List Happening → State
after_happenings rows c s [] = s
after_happenings rows c s (x ∷ xs) = after_happenings rows c (after_happening rows c s x) xs

-- ---- what was accepted

-- a request that joins is accepted with this reply, and changes nothing
abbrev pub replied_copy : History → RequestCopy → ReplyValue → History
replied_copy h k reply = record {
  sets = h.sets;
  accepted = record { manager = k.heard.source; index = k.index; request = k.request; reply = reply } ∷ h.accepted;
}

-- the reply that the device makes to a copy, if the copy joins and the say counts
abbrev pub reply_decided : List RelayedId → Clock → History → RequestCopy → Say → Option ReplyValue
reply_decided rows c h k say = if joins h k then reply_said rows c h.sets k.heard.source k.request say else None

abbrev pub after_reply_to : Clock → History → RequestCopy → Option ReplyValue → History
after_reply_to c h k None = after_copy c h k
after_reply_to c h k (Some reply) = replied_copy h k reply

abbrev pub after_decision : List RelayedId → Clock → History → RequestCopy → Say → History
after_decision rows c h k say = after_reply_to c h k (reply_decided rows c h k say)

-- the reply that is due to a copy
abbrev pub due_decided : List RelayedId → Clock → History → RequestCopy → Say → Option ReplyValue
due_decided rows c h k say = option_or (reply_decided rows c h k say) (due_reply c h k)

abbrev pub after_arrival : List RelayedId → Clock → History → Option RequestCopy → Say → History
after_arrival rows c h None say = h
after_arrival rows c h (Some k) say = after_decision rows c h k say

-- at a clock of this many ports
abbrev pub history_after : List RelayedId → Clock → ℕ → History → Happening → History
history_after rows c ports h (Delivered x say) = after_arrival rows c h (copy_of c ports x) say
history_after rows c ports h (Observed o seen) = moved_history o seen h
history_after rows c ports h (Changed q) = changed_history q h

-- Of happenings in their order, each accepted request applied or answered once, in order of first acceptance. Each observation and
-- each change at the device is in its place.
abbrev pub decided_in_place : List RelayedId → Clock → ℕ → History → List Happening → History
decided_in_place rows c ports h [] = h
decided_in_place rows c ports h (x ∷ xs) = decided_in_place rows c ports (history_after rows c ports h x) xs

-- ---- in time

-- a copy that comes in has the sequenceId of its index, and lies in the window; of anything else nothing is asked
abbrev pub ComesInTime : (PortIdentity → ℕ) → List RelayedId → Clock → ℕ → History → Happening → Type 0
ComesInTime first rows c ports h (Delivered x say) =
    (k : RequestCopy) → copy_of c ports x ≡ Some k → IsInTime first h k
ComesInTime first rows c ports h (Observed o seen) = Unit {0}
ComesInTime first rows c ports h (Changed q) = Unit {0}

-- each of a list, as it comes
abbrev pub ComeInTime : (PortIdentity → ℕ) → List RelayedId → Clock → ℕ → History → List Happening → Type 0
ComeInTime first rows c ports h [] = Unit {0}
ComeInTime first rows c ports h (x ∷ xs) =
    ComesInTime first rows c ports h x × ComeInTime first rows c ports (history_after rows c ports h x) xs
