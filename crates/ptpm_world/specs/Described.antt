-- The network that a file describes, as the network machine has it: clocks and sessions by their places.
use Rattle.std.specs.Prelude.{ℕ, ◌==◌, List, [], map, length, slice_index_or}
use Rattle.std.specs.List.{filter}
use Rattle.ptpm_codec.specs.declared.identity.PortIdentity.{PortIdentity}
use Rattle.ptpm_codec.specs.Identity.{every_clock}
use Rattle.ptpm_data.specs.declared.rights.Rights.{Rights}
use Rattle.ptpm_data.specs.Rights.{no_rights}
use Rattle.ptpm_data.specs.Start.{default_clock}
use Rattle.ptpm_table.specs.Managers.{clock_with}
use Rattle.ptpm_agent.specs.Turn.{Clock}
use Rattle.ptpm_network.specs.Network as machine
use Rattle.ptpm_network.specs.Network.{Network, SessionStart}
use Rattle.ptpm_script.specs.declared.network.End.{End}
use Rattle.ptpm_script.specs.declared.network.End.TheVariants as ends
use Rattle.ptpm_script.specs.declared.network.NetworkSession.{NetworkSession}
use Rattle.ptpm_script.specs.NetworkValue.{ClockValue, NetworkValue, first_sets}

-- ---- what is at a place; past the last, something that no definition looks at

abbrev pub no_clock : ClockValue
no_clock = record { name = []; start = default_clock every_clock 0; ports = [] }

abbrev pub no_session : NetworkSession
no_session = record {
  name = [];
  identity = record { clock = every_clock; port = 0 };
  target = 0;
  first = 0;
  hops = 0;
  attempts = 0;
  domain = 0;
  rights = no_rights;
}

abbrev pub clock_at : NetworkValue → ℕ → ClockValue
clock_at n c = slice_index_or n.clocks c no_clock

abbrev pub session_at : NetworkValue → ℕ → NetworkSession
session_at n s = slice_index_or n.sessions s no_session

-- ---- clocks

abbrev pub with_rights : NetworkSession → PortIdentity × Rights
with_rights s = (s.identity, s.rights)

-- the configured managers of a clock: the sessions with it for their target, in the file's order, with their rights
abbrev pub configured : List NetworkSession → ℕ → List (PortIdentity × Rights)
configured sessions c = map with_rights (filter (λ s. s.target == c) sessions)

abbrev pub described_clock : NetworkValue → ℕ → Clock
described_clock n c = clock_with (clock_at n c).start.identity (configured n.sessions c)

-- ---- sessions

abbrev pub described_session : NetworkValue → NetworkSession → SessionStart
described_session n s = record {
  setup = record {
    me = s.identity;
    target = (clock_at n s.target).start.identity;
    ports = length (clock_at n s.target).ports;
    first = s.first;
    hops = s.hops;
    attempts = s.attempts;
  };
  target = s.target;
  domain = s.domain;
}

-- ---- links

abbrev pub described_end : End → machine.End
described_end (ends.Clock place port) = machine.AtPort place port
described_end (ends.Session place) = machine.AtSession place

-- ---- the network

abbrev pub described : NetworkValue → Network
described n = record {
  clocks = length n.clocks;
  clock = described_clock n;
  start = λ c. first_sets (clock_at n c);
  sessions = length n.sessions;
  session = λ s. described_session n (session_at n s);
  links = map (map described_end) n.links;
}
