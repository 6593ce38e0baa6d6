-- Hosts lower boundaryHops of messages as these come in, in a network whose clocks and sessions may also crash. Beside it goes one in
-- which nobody lowers hops. It has the same clocks, sessions and reports. For each frame here there is one there, with as many hops or
-- more.
use Rattle.std.specs.Prelude.{◌≡◌, ℕ, ◌≤◌, List, [], ◌∷◌, length, Option, Some, None, ◌⊎◌}
use Rattle.std.specs.List.{AllByRecursion}
use Rattle.ptpm_network.specs.Events.{Deliver, frame_at, no_room}
use Rattle.ptpm_network.specs.Lowered.{IsLowered}
use Rattle.ptpm_network.specs.Network.{Network}
use Rattle.ptpm_network.specs.RunningNetwork.{Held}
use Rattle.ptpm_restarts.specs.ActsAsIfNever.{IsPossibleAct}
use Rattle.ptpm_restarts.specs.AsIfNever.{AreTimely, IsTimely}
use Rattle.ptpm_restarts.specs.Incidents.{Happens, Incident, after_incidents, delivered, incident, refused, unless}
use Rattle.ptpm_restarts.specs.Restarting.{RestartingNetwork, held_frames}

-- ---- what may happen

pub data HostIncident : Type 0 where
  AsEver : (incident : Incident) → HostIncident
  -- frame n comes in with these octets: a host has lowered its hops
  Lowers : (number : ℕ) → (octets : List ℕ) → HostIncident

abbrev pub with_octets : List ℕ → Option Held → Option Held
with_octets octets None = None
with_octets octets (Some h) = Some (record h { octets = octets })

-- it is refused as the delivery of the frame is
abbrev pub host_incident : Network → RestartingNetwork → HostIncident → RestartingNetwork
host_incident N k (AsEver i) = incident N k i
host_incident N k (Lowers n octets) = unless (refused N k (Deliver n)) k (delivered N k (with_octets octets (frame_at k.frames n)))

-- these octets are the frame's with boundaryHops lowered or left, and startingBoundaryHops lowered by as much
abbrev pub IsOfHost : RestartingNetwork → HostIncident → Type 0
IsOfHost k (AsEver i) = Unit {0}
IsOfHost k (Lowers n octets) = (h : Held) → frame_at k.frames n ≡ Some h → (most : ℕ) × IsLowered most h.octets octets

-- what is lowered is late if its frame is
abbrev pub IsTimelyOfHost : Network → RestartingNetwork → HostIncident → Type 0
IsTimelyOfHost N k (AsEver i) = IsTimely N k i
IsTimelyOfHost N k (Lowers n octets) = IsTimely N k (Happens (Deliver n))

abbrev pub IsPossibleOfHost : HostIncident → Type 0
IsPossibleOfHost (AsEver i) = IsPossibleAct i
IsPossibleOfHost (Lowers n octets) = Unit {0}

-- ---- one after another

abbrev pub after_host_incidents : Network → RestartingNetwork → List HostIncident → RestartingNetwork
after_host_incidents N k [] = k
after_host_incidents N k (i ∷ is) = after_host_incidents N (host_incident N k i) is

abbrev pub AreOfHost : Network → RestartingNetwork → List HostIncident → Type 0
AreOfHost N k [] = Unit {0}
AreOfHost N k (i ∷ is) = IsOfHost k i × AreOfHost N (host_incident N k i) is

abbrev pub AreTimelyOfHost : Network → RestartingNetwork → List HostIncident → Type 0
AreTimelyOfHost N k [] = Unit {0}
AreTimelyOfHost N k (i ∷ is) = IsTimelyOfHost N k i × AreTimelyOfHost N (host_incident N k i) is

-- whichever incidents happen, this many at most, there is room for frames after them
abbrev pub HasRoomAfter : Network → RestartingNetwork → ℕ → Type 0
HasRoomAfter N k most = (is : List Incident) → length is ≤ most → no_room (held_frames (after_incidents N k is)) ≡ None

-- ---- the two networks

-- a frame here, and one there: on its way to the same end, of the same request or reply, and the same except for hops
pub record IsLoweredHeld (here there : Held) : Type 0 where
  pub end : here.end ≡ there.end
  pub origin : here.origin ≡ there.origin
  pub octets : (here.octets ≡ there.octets) ⊎ ((most : ℕ) × IsLowered most there.octets here.octets)

abbrev pub IsLoweredWaiting : ℕ × Held → ℕ × Held → Type 0
IsLoweredWaiting here there = (here.0 ≡ there.0) × IsLoweredHeld here.1 there.1

-- each of a list stands for one of another, in its order, and not for all of them
pub data StandFor {A : Type 0} (R : A → A → Type 0) : List A → List A → Type 0 where
  Ended : StandFor R [] []
  Stands : (x y : A) (xs ys : List A) → R x y → StandFor R xs ys → StandFor R (x ∷ xs) (y ∷ ys)
  Lacks : (y : A) (xs ys : List A) → StandFor R xs ys → StandFor R xs (y ∷ ys)

-- the other has the same clocks, sessions and reports, and of each frame one with as many hops or more
pub record IsLoweredNetwork (low k : RestartingNetwork) : Type 0 where
  pub same : low ≡ record k { frames = low.frames; waiting = low.waiting }
  pub frames : StandFor IsLoweredHeld low.frames k.frames
  pub waiting : StandFor IsLoweredWaiting low.waiting k.waiting

-- ---- the law

-- Now it is this network. The other went through these incidents, at most `most`, and is beside it. They are possible and in time there, if
-- this may happen and is in time here.
pub record GoesBeside (N : Network) (k : RestartingNetwork) (most : ℕ) (now : RestartingNetwork) (possible timely : Type 0) : Type 0 where
  pub incidents : List Incident
  pub at_most : length incidents ≤ most
  pub beside : IsLoweredNetwork now (after_incidents N k incidents)
  pub are_possible : possible → AllByRecursion IsPossibleAct incidents
  pub are_timely : timely → AreTimely N k incidents
