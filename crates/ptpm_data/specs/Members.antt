-- The data sets of a clock: one value for each member, and for each port from 1 on (IEEE 1588-2019, clause 8).
use Rattle.std.specs.Prelude.{◌≡◌, ℕ, ◌≤◌, ◌-◌, ◌==◌, nat_le, Bool, true, false, ◌&&◌, if◌then◌else◌, List, length, slice_get, Option, Some, None, bytes_eq}
use Rattle.std.specs.List.{All}
use Rattle.ptpm_data.specs.declared.data_sets.ClockPrecedence.{ClockPrecedence}
use Rattle.ptpm_data.specs.declared.data_sets.DefaultDataSet.{DefaultDataSet}
use Rattle.ptpm_data.specs.declared.data_sets.CurrentDataSet.{CurrentDataSet}
use Rattle.ptpm_data.specs.declared.data_sets.ParentDataSet.{ParentDataSet}
use Rattle.ptpm_data.specs.declared.data_sets.TimePropertiesDataSet.{TimePropertiesDataSet}
use Rattle.ptpm_data.specs.declared.data_sets.PortDataSet.{PortDataSet}
use Rattle.ptpm_data.specs.declared.data_sets.DataSets.TheInside.{Inside}
use Rattle.ptpm_data.specs.declared.port_setting.PortSetting.{PortSetting}
use Rattle.ptpm_data.specs.declared.ports.TheConstants.{PORTS}
use Rattle.ptpm_data.specs.Ranges.{all_ones, is_clock_accuracy, is_description, is_in_range}
use Rattle.ptpm_data.specs.PortList.{ports_in}
use Rattle.ptpm_data.specs.PortState.{is_forwarding}

-- port n is at place n - 1
pub record DataSetsValue : Type 0 where
  pub default : DefaultDataSet
  pub description : List ℕ
  pub current : CurrentDataSet
  pub parent : ParentDataSet
  pub time : TimePropertiesDataSet
  pub ports : List PortDataSet

abbrev pub data_sets_value : Inside → DataSetsValue
data_sets_value d = record {
  default = d.default;
  description = d.description;
  current = d.current;
  parent = d.parent;
  time = d.time;
  ports = ports_in d.ports;
}

-- ---- ports

-- one of the clock's ports
abbrev pub HasPort : ℕ → DataSetsValue → Type 0
HasPort port d = (1 ≤ port) × (port ≤ length d.ports)

-- the same as a test
abbrev pub has_port : ℕ → DataSetsValue → Bool
has_port port d = nat_le 1 port && nat_le port (length d.ports)

-- the data set of port n among those of all ports; none if it is not among them
abbrev pub port_among : ℕ → List PortDataSet → Option PortDataSet
port_among port ports = if port == 0 then None else slice_get ports (port - 1)

-- the data set of a port; none if the clock lacks it
abbrev pub port_of : ℕ → DataSetsValue → Option PortDataSet
port_of port d = port_among port d.ports

abbrev pub is_forwarding_port : Option PortDataSet → Bool
is_forwarding_port None = false
is_forwarding_port (Some p) = is_forwarding p.state

-- whether the clock has the port, in a state in which it forwards management messages
abbrev pub may_forward : ℕ → DataSetsValue → Bool
may_forward port d = is_forwarding_port (port_of port d)

-- ---- the grandmaster

-- the clock is its own grandmaster
abbrev pub is_grandmaster : DefaultDataSet → ParentDataSet → Bool
is_grandmaster default parent = bytes_eq parent.grandmaster.0 default.identity.0

abbrev pub is_own_grandmaster : DataSetsValue → Bool
is_own_grandmaster d = is_grandmaster d.default d.parent

abbrev pub is_same_precedence : ClockPrecedence → ClockPrecedence → Bool
is_same_precedence a b =
    (a.priority1 == b.priority1) && ((a.class == b.class) && ((a.accuracy == b.accuracy)
    && ((a.variance == b.variance) && (a.priority2 == b.priority2))))

-- ---- what is true of the data sets of every clock

-- the members of a port that a SET can change are in their ranges
pub record IsPortInRange (p : PortDataSet) : Type 0 where
  pub settings : (s : PortSetting) → is_in_range s (p.settings s) ≡ true

-- A clock has 1 to PORTS ports, an identity that is not all ones, and its members, and those of its ports, in their ranges.
-- One that is its own grandmaster shows its own priorities and quality in its parent data set (9.3.5, table 30).
pub record IsConsistent (d : DataSetsValue) : Type 0 where
  pub some_port : 1 ≤ length d.ports
  pub few_ports : length d.ports ≤ PORTS
  pub identity : bytes_eq d.default.identity.0 all_ones ≡ false
  pub description : is_description d.description ≡ true
  pub accuracy : is_clock_accuracy d.default.precedence.accuracy ≡ true
  pub leaps : (d.time.leap61 && d.time.leap59) ≡ false
  pub ports : All IsPortInRange d.ports
  pub grandmaster : is_own_grandmaster d ≡ true → d.parent.precedence ≡ d.default.precedence

abbrev pub IsConsistentInside : Inside → Type 0
IsConsistentInside d = IsConsistent (data_sets_value d)
