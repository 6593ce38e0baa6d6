-- What restarts change, on one page: nothing but which messages come. A network's clocks and sessions may crash at any time, as
-- often as they like. If the network saves in time, it is as one that never crashed and went through some of the same events, in
-- the same order. So what `Headline` promises for that one holds for it. Whatever a session reported, also before a crash, is
-- worth a report there.
use Rattle.std.specs.Prelude.{◌≡◌, ℕ, ◌<◌, false, Bool, List, [], ◌∷◌, Option, Some, None}
use Rattle.std.specs.List.{AllByRecursion, Contains}
use Rattle.ptpm_network.specs.Events.{Event, Replay, Deliver, IsInRange, frame_at}
use Rattle.ptpm_network.specs.Machine.{state_after, taken}
use Rattle.ptpm_network.specs.Network.{IsNetwork, Network}
use Rattle.ptpm_network.specs.RunningNetwork.{Held, RunningNetwork, initial_network, network_run}
use Rattle.ptpm_network.specs.Stands.{StandsAfter}
use Rattle.ptpm_network.specs.State.{Neither, Origin, ReplyTo, RequestOf, initial_state, is_late_at}
use Rattle.ptpm_network.specs.Worth.{IsWorth}
use Rattle.ptpm_restarts.specs.Incidents.{GivesUp, Happens, Incident, Observes, incident, refused}
use Rattle.ptpm_restarts.specs.Restarting.{RestartingNetwork, held_frames, initial_restarting, running}

-- ---- the premises

abbrev pub is_late_in : RestartingNetwork → Origin → Bool
is_late_in k (RequestOf s j) = is_late_at j (k.session s).live.session.issued
is_late_in k (ReplyTo s j) = is_late_at j (k.session s).live.session.issued
is_late_in k Neither = false

abbrev pub is_late_held : RestartingNetwork → Option Held → Bool
is_late_held k None = false
is_late_held k (Some h) = is_late_in k h.origin

abbrev pub is_late_event : RestartingNetwork → Event → Bool
is_late_event k (Deliver n) = is_late_held k (frame_at k.frames n)
is_late_event k _ = false

-- what is refused is no delivery
abbrev pub IsTimely : Network → RestartingNetwork → Incident → Type 0
IsTimely N k (Happens e) = refused N k e ≡ None → is_late_event k e ≡ false
IsTimely N k _ = Unit {0}

abbrev pub AreTimely : Network → RestartingNetwork → List Incident → Type 0
AreTimely N k [] = Unit {0}
AreTimely N k (i ∷ is) = IsTimely N k i × AreTimely N (incident N k i) is

-- what may happen where nobody gives up and no host observes
abbrev pub IsPossible : Incident → Type 0
IsPossible (Happens e) = IsInRange e
IsPossible (GivesUp s) = ⊥
IsPossible (Observes c o) = ⊥
IsPossible _ = Unit {0}

-- The premises are the headline's: such a network, events that a program can hand in, and no frame that is delivered late. When
-- anyone saves or crashes is free.
pub record IsPromisedRestarting (N : Network) (is : List Incident) : Type 0 where
  pub network : IsNetwork N
  pub possible : AllByRecursion IsPossible is
  pub timely : AreTimely N (initial_restarting N) is

-- ---- some of what happened, in its order

-- the same event; a frame that comes in or is replayed may bear another number among the frames there
abbrev pub IsSame : List Held → List Held → Event → Event → Type 0
IsSame here there (Deliver n) (Deliver m) = (h : Held) × (frame_at here n ≡ Some h) × (frame_at there m ≡ Some h)
IsSame here there (Replay n end) (Replay m other) = (h : Held) × (frame_at here n ≡ Some h) × (frame_at there m ≡ Some h) × (end ≡ other)
IsSame here there e f = e ≡ f

pub data AreSomeOf (here there : List Held) : List Event → List Incident → Type 0 where
  Ended : AreSomeOf here there [] []
  Skip : (i : Incident) (es : List Event) (is : List Incident) → AreSomeOf here there es is → AreSomeOf here there es (i ∷ is)
  Take : (e f : Event) (es : List Event) (is : List Incident) → IsSame here there e f → AreSomeOf here there es is
      → AreSomeOf here there (f ∷ es) (Happens e ∷ is)

-- ---- the law

-- where these events lead a network that never crashes
abbrev pub never_crashed : Network → List Event → RunningNetwork
never_crashed N events = network_run N (initial_network N) events

pub record IsAsIfNever (N : Network) (is : List Incident) (k : RestartingNetwork) : Type 0 where
  -- That one went through these events: some of those here, in their order. None is refused there, and none delivers a frame late.
  pub events : List Event
  pub some : AreSomeOf k.frames (never_crashed N events).frames events is
  pub none_refused : taken N (initial_state N) events ≡ events
  pub stands : StandsAfter N events (never_crashed N events)
  -- Each clock has the same data sets and entries, each session the same request under way and the same reports.
  pub same : record (running k) { frames = (never_crashed N events).frames } ≡ never_crashed N events
  -- Every frame that was sent here, or waits, was sent there, to the same end and with the same octets.
  pub frames : AllByRecursion (Contains (never_crashed N events).frames) (held_frames k)
  -- What is reported there was reported here, once or more. Whatever was reported here is worth a report there.
  pub reported : (s : ℕ) → AllByRecursion (Contains (k.told s)) ((never_crashed N events).reports s)
  pub worth : (s : ℕ) → s < N.sessions → AllByRecursion (IsWorth N (state_after N events) s) (k.told s)
