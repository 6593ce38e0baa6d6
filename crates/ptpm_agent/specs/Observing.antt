-- At-most-once execution at a clock whose host observes. Between deliveries the data sets then also change without a request,
-- when a servo or the state machine of a port reports what it found. Each accepted request is still applied once, to the data
-- sets as they are then (this project's profile).
use Rattle.std.specs.Prelude.{◌≡◌, ℕ, true, List, [], ◌∷◌, map, Option, Some, None}
use Rattle.ptpm_codec.specs.declared.identity.PortIdentity.{PortIdentity}
use Rattle.ptpm_data.specs.declared.observation.ClockObservation.{ClockObservation}
use Rattle.ptpm_data.specs.declared.observation.PortObservation.{PortObservation}
use Rattle.ptpm_data.specs.Observation.{observed}
use Rattle.ptpm_table.specs.Numbering.{same_request}
use Rattle.ptpm_agent.specs.Once.{Delivery, History, RequestCopy, after_copy, copy_of}
use Rattle.ptpm_agent.specs.Turn.{Clock, State, turn}
use Rattle.ptpm_agent.specs.Window.{IsInTime}

-- ---- what happens at a clock

pub data Happening : Type 0 where
  -- a datagram comes in at a port
  Delivered : (delivery : Delivery) → Happening
  -- the host reports what it observes of the clock, and of its ports from 1 on; if this is refused, nothing moves
  Observed : (clock : ClockObservation) → (ports : List PortObservation) → Happening

-- deliveries, and no observation
abbrev pub deliveries_alone : List Delivery → List Happening
deliveries_alone xs = map (λ x. Delivered x) xs

-- ---- the clock

-- an observation moves the data sets, and leaves what is kept of each manager
abbrev pub moved_state : ClockObservation → List PortObservation → State → State
moved_state o ports s = record { sets = observed o ports s.sets; entries = s.entries }

abbrev pub after_happening : Clock → State → Happening → State
after_happening c s (Delivered x) = (turn c s x.ingress x.datagram).next
after_happening c s (Observed o ports) = moved_state o ports s

-- a clock after all of these, in their order
abbrev pub after_happenings : Clock → State → List Happening → State
after_happenings c s [] = s
after_happenings c s (x ∷ xs) = after_happenings c (after_happening c s x) xs

-- ---- what was accepted

-- a delivery, with a copy or with none
abbrev pub after_arrival : Clock → History → Option RequestCopy → History
after_arrival c h None = h
after_arrival c h (Some k) = after_copy c h k

-- an observation leaves what was accepted, with the replies
abbrev pub moved_history : ClockObservation → List PortObservation → History → History
moved_history o ports h = record { sets = observed o ports h.sets; accepted = h.accepted }

-- at a clock of this many ports
abbrev pub history_after : Clock → ℕ → History → Happening → History
history_after c ports h (Delivered x) = after_arrival c h (copy_of c ports x)
history_after c ports h (Observed o seen) = moved_history o seen h

-- of happenings in their order, each accepted request applied once, in order of first acceptance, and each observation in its
-- place among them
abbrev pub applied_in_place : Clock → ℕ → History → List Happening → History
applied_in_place c ports h [] = h
applied_in_place c ports h (x ∷ xs) = applied_in_place c ports (history_after c ports h x) xs

-- both are copies of one request of one manager
pub record AreOfOneRequest (k j : RequestCopy) : Type 0 where
  pub source : j.heard.source ≡ k.heard.source
  pub index : j.index ≡ k.index
  pub request : same_request k.request j.request ≡ true

-- ---- in time

-- a copy that comes in has the sequenceId of its index, and lies in the window; of an observation nothing is asked
abbrev pub ComesInTime : (PortIdentity → ℕ) → Clock → ℕ → History → Happening → Type 0
ComesInTime first c ports h (Delivered x) =
    (k : RequestCopy) → copy_of c ports x ≡ Some k → IsInTime first h k
ComesInTime first c ports h (Observed o seen) = Unit {0}

-- each of a list, as it comes
abbrev pub ComeInTime : (PortIdentity → ℕ) → Clock → ℕ → History → List Happening → Type 0
ComeInTime first c ports h [] = Unit {0}
ComeInTime first c ports h (x ∷ xs) =
    ComesInTime first c ports h x × ComeInTime first c ports (history_after c ports h x) xs
