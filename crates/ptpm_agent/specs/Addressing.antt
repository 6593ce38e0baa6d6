-- What a message asks, and whether it is for a clock (IEEE 1588-2019, 15.3.1; which requests are numbered is this project's
-- profile).
use Rattle.std.specs.Prelude.{ℕ, ◌==◌, ◌&&◌, ◌||◌, nat_le, not, Bool, length}
use Rattle.ptpm_codec.specs.declared.message.Message.{Message}
use Rattle.ptpm_codec.specs.Identity.{same_clock, every_clock, every_port}
use Rattle.ptpm_codec.specs.Message.{action_of, id_of, octets_of, is_reply}
use Rattle.ptpm_data.specs.Members.{DataSetsValue}
use Rattle.ptpm_data.specs.Request.{RequestValue}
use Rattle.ptpm_table.specs.declared.heard.Heard.{Heard}
use Rattle.ptpm_table.specs.Entries.{is_known}
use Rattle.ptpm_table.specs.Managers.{Clock}

-- ---- what a message says

-- what a request asks, the target's portNumber included
abbrev pub request_of : Message → RequestValue
request_of v = record {
  action = action_of v.body;
  id = id_of v.body;
  port = v.target.port;
  octets = octets_of v.body;
}

-- a GET, SET or COMMAND
abbrev pub is_request : Message → Bool
is_request v = not (is_reply (action_of v.body))

-- what a reply takes from the copy that it answers
abbrev pub heard_of : Message → Heard
heard_of v = record {
  domain = v.domain;
  source = v.source;
  number = v.number;
  starting_hops = v.starting_hops;
  hops = v.hops;
}

-- ---- whom it is of, and whom it is for

abbrev pub is_own : Clock → Message → Bool
is_own c v = same_clock v.source.clock c.identity

-- its target clock is exactly this clock
abbrev pub is_for_this_clock : Clock → Message → Bool
is_for_this_clock c v = same_clock v.target.clock c.identity

-- every port, or one of a clock's N (15.3.1)
abbrev pub names_port : ℕ → ℕ → Bool
names_port ports port = port == every_port || (nat_le 1 port && nat_le port ports)

-- for this clock or every clock, at a port that it has (15.3.1)
abbrev pub is_addressed : Clock → DataSetsValue → Message → Bool
is_addressed c d v =
    (is_for_this_clock c v || same_clock v.target.clock every_clock)
    && names_port (length d.ports) v.target.port

-- from a configured manager, and for exactly this clock: such a request is numbered (this project's profile)
abbrev pub is_numbered : Clock → Message → Bool
is_numbered c v = is_known v.source c.managers && is_for_this_clock c v
