-- A world as the network's definitions see it: clocks and sessions by their places, and all frames.
use Rattle.std.specs.Prelude.{◌≡◌, ℕ, List, [], Bool, false, bytes_eq, find, length, slice_get, Option, Some, None, option_map}
use Rattle.ptpm_data.specs.Members.{DataSetsValue}
use Rattle.ptpm_table.specs.declared.reply_table.ReplyTable.{Ghosts}
use Rattle.ptpm_table.specs.Entries.{Entries}
use Rattle.ptpm_table.specs.Tables.{OfSixteen, entries_of_sixteen, owner_of_sixteen}
use Rattle.ptpm_agent.specs.Agent as agent
use Rattle.ptpm_agent.specs.Agent.{clock_of}
use Rattle.ptpm_agent.specs.declared.agent.Agent.{Agent}
use Rattle.ptpm_agent.specs.Laws.{initial_clock_state}
use Rattle.ptpm_agent.specs.Turn.{Clock, State}
use Rattle.ptpm_manager.specs.declared.report.Report.{Report}
use Rattle.ptpm_manager.specs.Session as session
use Rattle.ptpm_manager.specs.Session.{SessionValue}
use Rattle.ptpm_network.specs.Network.{Network, manager, ports}
use Rattle.ptpm_network.specs.RunningNetwork.{Held, RunningNetwork}
use Rattle.ptpm_network.specs.State as state
use Rattle.ptpm_network.specs.State.{is_late_at}
use Rattle.ptpm_script.specs.NetworkValue.{first_sets}
use Rattle.ptpm_world.specs.declared.world.World.{World}
use Rattle.ptpm_world.specs.declared.running_clock.RunningClock.{RunningClock}
use Rattle.ptpm_world.specs.declared.world.RunningSession.{RunningSession}
use Rattle.ptpm_world.specs.Described as described
use Rattle.ptpm_world.specs.Frames.{held_in, link_ends}
pub use Rattle.ptpm_world.specs.Ends.{AreLinks, IsOfSession, IsStoredFrame, IsThere, port_counts}

-- ---- an agent

-- what its table of sixteen slots keeps of each manager: `ReplyTable`'s entries
abbrev pub table_entries : OfSixteen → Entries
table_entries t = entries_of_sixteen t

-- its identity, its managers, and what each of them may change: `ReplyTable`'s owner
abbrev pub agent_clock : {g : Ghosts OfSixteen} → Agent OfSixteen g → Clock
agent_clock a = clock_of owner_of_sixteen a

-- its data sets, and what is kept of each manager
abbrev pub agent_state : {g : Ghosts OfSixteen} → Agent OfSixteen g → State
agent_state a = agent.state_of table_entries a

-- ---- what is at a place; past the last, something that no definition looks at

abbrev pub state_of : Option RunningClock → State
state_of None = initial_clock_state (first_sets described.no_clock)
state_of (Some c) = agent_state c.agent

abbrev pub no_session : SessionValue
no_session = session.fresh (record { me = described.no_session.identity; target = described.no_clock.start.identity; ports = 1; first = 0; hops = 0; attempts = 0 }) 0

abbrev pub session_of : Option RunningSession → SessionValue
session_of None = no_session
session_of (Some s) = s.session

abbrev pub reports_of : Option RunningSession → List Report
reports_of None = []
reports_of (Some s) = s.reports.items

-- ---- the whole

abbrev pub running : World → RunningNetwork
running w = record {
  clock = λ c. state_of (slice_get w.clocks.items c);
  session = λ s. session_of (slice_get w.sessions.items s);
  reports = λ s. reports_of (slice_get w.sessions.items s);
  frames = held_in w.frames;
}

-- a clock of the network at its place: its identity, managers and rights, and its number of ports
pub record IsClockOf (N : Network) (c : ℕ) (x : RunningClock) : Type 0 where
  pub clock : agent_clock x.agent ≡ N.clock c
  pub ports : length x.agent.sets.ports ≡ ports N c

pub record IsSessionOf (N : Network) (s : ℕ) (x : RunningSession) : Type 0 where
  pub identity : x.identity ≡ manager N s

-- the world is one of this network
pub record IsOf (N : Network) (w : World) : Type 0 where
  pub clock_count : length w.clocks.items ≡ N.clocks
  pub clocks : (c : ℕ) (x : RunningClock) → slice_get w.clocks.items c ≡ Some x → IsClockOf N c x
  pub session_count : length w.sessions.items ≡ N.sessions
  pub sessions : (s : ℕ) (x : RunningSession)
      → slice_get w.sessions.items s ≡ Some x
      → IsSessionOf N s x
  pub links : link_ends w.links.items ≡ N.links

-- ---- by names

abbrev pub sets_of : Option RunningClock → Option DataSetsValue
sets_of c = option_map (λ x. x.agent.sets) c

abbrev pub sets_named : World → List ℕ → Option DataSetsValue
sets_named w name = sets_of (find (λ c. bytes_eq c.name name) w.clocks.items)

abbrev pub reports_named : World → List ℕ → Option (List Report)
reports_named w name = option_map (λ s. s.reports.items) (find (λ s. bytes_eq s.name name) w.sessions.items)

-- ---- lateness

-- a copy of a request, or of a reply to it, whose session has begun over 32,768 requests since
abbrev pub is_late_of : RunningNetwork → state.Origin → Bool
is_late_of r (state.RequestOf s k) = is_late_at k (r.session s).issued
is_late_of r (state.ReplyTo s k) = is_late_at k (r.session s).issued
is_late_of r state.Neither = false

abbrev pub is_late_held : RunningNetwork → Option Held → Bool
is_late_held r None = false
is_late_held r (Some h) = is_late_of r h.origin
