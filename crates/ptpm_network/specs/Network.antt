-- A network as its file describes it: clocks, the sessions that manage them, and links between both.
use Rattle.std.specs.Prelude.{◌≡◌, ◌≢◌, ℕ, ◌<◌, ◌≤◌, ◌==◌, ◌&&◌, Bool, true, false, not, List, [], ◌∷◌, length, if◌then◌else◌}
use Rattle.std.specs.List.{AllByRecursion, filter, list_any}
use Rattle.ptpm_codec.specs.declared.identity.PortIdentity.{PortIdentity}
use Rattle.ptpm_codec.specs.Identity.{every_clock}
use Rattle.ptpm_codec.specs.Message.{PortIdentityFits}
use Rattle.ptpm_data.specs.declared.ports.TheConstants.{PORTS}
use Rattle.ptpm_data.specs.Members.{DataSetsValue}
use Rattle.ptpm_table.specs.Entries.{is_known}
use Rattle.ptpm_agent.specs.Turn.{Clock}
use Rattle.ptpm_manager.specs.declared.setup.Setup.{Setup}
use Rattle.ptpm_manager.specs.declared.setup.TheConstants.{TARGET_PORTS}
use Rattle.ptpm_network.specs.DataSets.{AreDataSets}

-- The end at which a message is sent or comes in: a port of a clock, or a session. Each is given by its place in the
-- file, from 0.
pub data End : Type 0 where
  AtPort : (clock : ℕ) → (port : ℕ) → End
  AtSession : (session : ℕ) → End

abbrev pub same_end : End → End → Bool
same_end (AtPort c p) (AtPort d q) = c == d && p == q
same_end (AtSession s) (AtSession t) = s == t
same_end _ _ = false

-- the other ends of the link that an end is on, in the link's order; none if it is on no link
abbrev pub peers : List (List End) → End → List End
peers [] e = []
peers (link ∷ links) e =
    if list_any (same_end e) link
    then filter (λ other. not (same_end e other)) link else peers links e

-- a manager of one clock, with the domain that it starts in
pub record SessionStart : Type 0 where
  pub setup : Setup
  -- the place of the clock that it manages
  pub target : ℕ
  pub domain : ℕ

-- clocks and sessions have the places below their numbers
pub record Network : Type 0 where
  pub clocks : ℕ
  pub clock : ℕ → Clock
  -- the data sets that a clock starts with
  pub start : ℕ → DataSetsValue
  pub sessions : ℕ
  pub session : ℕ → SessionStart
  pub links : List (List End)

abbrev pub manager : Network → ℕ → PortIdentity
manager N s = (N.session s).setup.me

abbrev pub ports : Network → ℕ → ℕ
ports N c = length (N.start c).ports

-- as how many ports a session takes its target to have
abbrev pub expected_ports : Network → ℕ → ℕ
expected_ports N s = (N.session s).setup.ports

abbrev pub HasEnd : Network → End → Type 0
HasEnd N (AtPort c p) = (c < N.clocks) × (1 ≤ p) × (p ≤ ports N c)
HasEnd N (AtSession s) = s < N.sessions

-- no clock has more ports than this
abbrev pub ClocksHaveAtMost : Network → ℕ → Type 0
ClocksHaveAtMost N most = (c : ℕ) → c < N.clocks → ports N c ≤ most

-- ---- what holds of the network of every accepted file

-- a clock of 1 to PORTS ports, whose identity is not the one that means every clock
pub record IsClock (N : Network) (c : ℕ) : Type 0 where
  pub identity : length (N.clock c).identity.0 ≡ 8
  pub is_one : (N.clock c).identity ≢ every_clock
  pub some_port : 1 ≤ ports N c
  pub few_ports : ports N c ≤ PORTS
  pub start : AreDataSets (ports N c) (N.start c)

-- A session with one of the clocks for its target, set up with that clock's identity. It takes the clock to have 1 to 255 ports,
-- whatever the clock has.
pub record IsSession (N : Network) (s : ℕ) : Type 0 where
  pub identity : PortIdentityFits (manager N s)
  pub is_one : (manager N s).clock ≢ every_clock
  pub exists : (N.session s).target < N.clocks
  pub target : (N.session s).setup.target ≡ (N.clock (N.session s).target).identity
  pub some_port : 1 ≤ expected_ports N s
  pub few_ports : expected_ports N s ≤ TARGET_PORTS

-- a link of 2 to 16 ends, and each end is there
pub record IsLink (N : Network) (link : List End) : Type 0 where
  pub two : 2 ≤ length link
  pub at_most_sixteen : length link ≤ 16
  pub ends : AllByRecursion (HasEnd N) link

pub record IsNetwork (N : Network) : Type 0 where
  pub are_clocks : (c : ℕ) → c < N.clocks → IsClock N c
  pub are_sessions : (s : ℕ) → s < N.sessions → IsSession N s
  -- no two clocks have one identity, no two sessions one identity and one target, and no session has a clock's identity
  pub clocks_apart : (c d : ℕ) → c < N.clocks → d < N.clocks
      → (N.clock c).identity ≡ (N.clock d).identity → c ≡ d
  pub sessions_apart : (s t : ℕ) → s < N.sessions → t < N.sessions → manager N s ≡ manager N t
      → (N.session s).target ≡ (N.session t).target
      → s ≡ t
  pub no_clock : (s c : ℕ) → s < N.sessions → c < N.clocks
      → (manager N s).clock ≢ (N.clock c).identity
  -- the configured managers of a clock are the sessions with it for their target, and nobody else
  pub configured : (s : ℕ) → s < N.sessions
      → is_known (manager N s) (N.clock (N.session s).target).managers ≡ true
  pub managers : (c : ℕ) (m : PortIdentity) → c < N.clocks → is_known m (N.clock c).managers ≡ true
      → (s : ℕ) × (s < N.sessions) × (manager N s ≡ m) × ((N.session s).target ≡ c)
  pub are_links : AllByRecursion (IsLink N) N.links
