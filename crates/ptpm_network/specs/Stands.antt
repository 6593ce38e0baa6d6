-- When a running network is at a state of the machine. Its clocks and sessions have states of their own, in which
-- requests are distinguished by sequenceIds. Its frames lack what no receiver can see.
use Rattle.std.specs.Prelude.{◌≡◌, ℕ, ◌<◌, List, map}
use Rattle.ptpm_codec.specs.declared.identity.PortIdentity.{PortIdentity}
use Rattle.ptpm_agent.specs.Laws.{StandsAt}
use Rattle.ptpm_network.specs.Events.{Event}
use Rattle.ptpm_network.specs.Headline.{IsPromised}
use Rattle.ptpm_network.specs.Machine.{state_after}
use Rattle.ptpm_network.specs.Network.{Network, manager}
use Rattle.ptpm_network.specs.RunningNetwork.{RunningNetwork, held}
use Rattle.ptpm_network.specs.State.{NetworkState, history, session_value}

-- each session's first sequenceId, by its target and its identity
abbrev pub AreFirsts : Network → (ℕ → PortIdentity → ℕ) → Type 0
AreFirsts N first = (s : ℕ) → s < N.sessions → first (N.session s).target (manager N s) ≡ (N.session s).setup.first

pub record Stands (N : Network) (first : ℕ → PortIdentity → ℕ) (r : RunningNetwork)
    (w : NetworkState) : Type 0 where
  -- each clock has the data sets of its history, and of each manager the latest accepted request, with its sequenceId
  pub clocks : (c : ℕ) → c < N.clocks → StandsAt (first c) (r.clock c) (history N w c)
  -- each session has its domain, its attempts, the count of its requests and the one that is not answered
  pub sessions : (s : ℕ) → s < N.sessions → r.session s ≡ session_value (N.session s) (w.session s)
  pub reports : (s : ℕ) → s < N.sessions → r.reports s ≡ (w.session s).reports
  pub frames : r.frames ≡ map held w.frames

-- The running network r has gone through these events, and is at the state to which they lead the machine. This holds for
-- any first sequenceIds of those who manage nothing.
pub record StandsAfter (N : Network) (events : List Event) (r : RunningNetwork) : Type 0 where
  pub promised : IsPromised N events
  pub stands : (first : ℕ → PortIdentity → ℕ) → AreFirsts N first
      → Stands N first r (state_after N events)
