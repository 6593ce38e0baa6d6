-- What a network is: clocks, sessions and links, in the file's order (this project's profile).
use Rattle.std.specs.Prelude.{ℕ, ◌≡◌, ◌==◌, ◌<◌, ◌≤◌, ◌≢◌, List, map, length, Some, slice_get, IsOk, flat_map}
use Rattle.std.specs.List.{AllByRecursion, count_by}
use Rattle.ptpm_codec.specs.Identity.{every_clock}
use Rattle.ptpm_codec.specs.Message.{PortIdentityFits}
use Rattle.ptpm_data.specs.Members.{DataSetsValue}
use Rattle.ptpm_data.specs.RequestLaws.{IsSized}
use Rattle.ptpm_data.specs.Start.{start_of, started}
use Rattle.ptpm_data.specs.declared.start.ClockStart.{ClockStart}
use Rattle.ptpm_data.specs.declared.start.PortStart.{PortStart}
use Rattle.ptpm_script.specs.declared.limits.TheConstants.{CLOCK_PORTS}
use Rattle.ptpm_script.specs.declared.network.End.{End}
use Rattle.ptpm_script.specs.declared.network.End.TheVariants as ends
use Rattle.ptpm_script.specs.declared.network.NetworkClock.{NetworkClock}
use Rattle.ptpm_script.specs.declared.network.NetworkSession.{NetworkSession}
use Rattle.ptpm_script.specs.declared.network.NetworkLink.{NetworkLink}

-- a clock, with its ports from 1 on
pub record ClockValue : Type 0 where
  pub name : List ℕ
  pub start : ClockStart
  pub ports : List PortStart

-- a network; a link is the list of its ends
pub record NetworkValue : Type 0 where
  pub clocks : List ClockValue
  pub sessions : List NetworkSession
  pub links : List (List End)

abbrev pub clock_value : NetworkClock → ClockValue
clock_value c = record { name = c.name; start = c.start; ports = c.ports.items }

abbrev pub link_value : NetworkLink → List End
link_value l = l.ends.items

-- of these clocks, sessions and links
abbrev pub value_of : List NetworkClock → List NetworkSession → List NetworkLink → NetworkValue
value_of clocks sessions links = record {
  clocks = map clock_value clocks;
  sessions = sessions;
  links = map link_value links;
}

-- ---- what holds of the network of every text that is one

-- no two elements of a list have this part in common
abbrev pub AreDistinct : {A B : Type 0} → (A → B) → List A → Type 0
AreDistinct {A} part xs = (i j : ℕ) (x y : A) → slice_get xs i ≡ Some x → slice_get xs j ≡ Some y → part x ≡ part y → i ≡ j

-- a port of a clock, or a session, that is there
abbrev pub IsEndOf : NetworkValue → End → Type 0
IsEndOf n (ends.Clock place port) =
    (c : ClockValue) × (slice_get n.clocks place ≡ Some c) × (1 ≤ port) × (port ≤ length c.ports)
IsEndOf n (ends.Session place) = place < length n.sessions

-- a clock that can start
pub record CanStart (c : ClockValue) : Type 0 where
  pub starts : IsOk (start_of c.start c.ports)
  pub some_port : 1 ≤ length c.ports
  pub few_ports : length c.ports ≤ CLOCK_PORTS
  pub is_one : c.start.identity ≢ every_clock

-- a session of one manager, which is no clock, at a clock that is there
pub record IsSessionOf (n : NetworkValue) (s : NetworkSession) : Type 0 where
  pub is_one : s.identity.clock ≢ every_clock
  pub no_name : AllByRecursion (λ c. s.name ≢ c.name) n.clocks
  pub no_clock : AllByRecursion (λ c. s.identity.clock ≢ c.start.identity) n.clocks
  pub target : s.target < length n.clocks

-- a link of 2 to 16 ends
pub record IsLinkOf (n : NetworkValue) (link : List End) : Type 0 where
  pub two : 2 ≤ length link
  pub at_most_sixteen : length link ≤ 16
  pub ends : AllByRecursion (IsEndOf n) link

pub record IsAccepted (n : NetworkValue) : Type 0 where
  pub clock_count : length n.clocks ≤ 64
  pub session_count : length n.sessions ≤ 256
  pub link_count : length n.links ≤ 256
  pub clocks : AllByRecursion CanStart n.clocks
  pub sessions : AllByRecursion (IsSessionOf n) n.sessions
  pub links : AllByRecursion (IsLinkOf n) n.links
  -- a clock has 16 managers at most
  pub managers : (place : ℕ) → count_by (λ s. s.target == place) n.sessions ≤ 16
  pub clock_names : AreDistinct (λ c. c.name) n.clocks
  pub clock_identities : AreDistinct (λ c. c.start.identity) n.clocks
  pub session_names : AreDistinct (λ s. s.name) n.sessions
  pub session_identities : AreDistinct (λ s. s.identity) n.sessions
  -- no end is in two links, or twice in one
  pub ends_once : AreDistinct (λ e. e) (flat_map (λ link. link) n.links)

-- ---- what the types of a program add

-- the data sets that a clock starts with
abbrev pub first_sets : ClockValue → DataSetsValue
first_sets c = started c.start c.ports

-- identities of eight octets, portNumbers of 16 bits, and data sets of their sizes: a value of the program has no others
pub record AreSized (n : NetworkValue) : Type 0 where
  pub clocks : AllByRecursion (λ c. IsSized (first_sets c)) n.clocks
  pub sessions : AllByRecursion (λ s. PortIdentityFits s.identity) n.sessions
