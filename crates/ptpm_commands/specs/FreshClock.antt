-- The clock that `ptpm answer` shows. It has two ports and every member at its default. Its one configured manager has every
-- right and has sent nothing yet.
use Rattle.std.specs.Prelude.{List, [], ◌∷◌}
use Rattle.ptpm_codec.specs.declared.identity.ClockIdentity.{ClockIdentity}
use Rattle.ptpm_codec.specs.declared.identity.PortIdentity.{PortIdentity}
use Rattle.ptpm_data.specs.declared.rights.Rights.{Rights}
use Rattle.ptpm_data.specs.declared.start.PortStart.{PortStart}
use Rattle.ptpm_data.specs.Members.{DataSetsValue}
use Rattle.ptpm_data.specs.Rights.{all_rights}
use Rattle.ptpm_data.specs.Start.{default_clock, default_port, started}

-- aabbccfffeddee01
abbrev pub shown : ClockIdentity
shown = record { 0 = 0xaa ∷ 0xbb ∷ 0xcc ∷ 0xff ∷ 0xfe ∷ 0xdd ∷ 0xee ∷ 0x01 ∷ [] }

-- 0011223344556677/1
abbrev pub manager : PortIdentity
manager = record {
  clock = record { 0 = 0x00 ∷ 0x11 ∷ 0x22 ∷ 0x33 ∷ 0x44 ∷ 0x55 ∷ 0x66 ∷ 0x77 ∷ [] };
  port = 1;
}

abbrev pub managers : List (PortIdentity × Rights)
managers = (manager, all_rights) ∷ []

abbrev pub two_ports : List PortStart
two_ports = default_port ∷ default_port ∷ []

-- in domain 0
abbrev pub fresh_sets : DataSetsValue
fresh_sets = started (default_clock shown 0) two_ports
