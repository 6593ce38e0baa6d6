-- What the dataField of a GET holds (IEEE 1588-2019, 15.5.3), one word for each data set. Numbers of several octets have
-- the highest octet first, and signed ones are in two's complement (5.2). A reserved octet is 0.
use Rattle.std.specs.Prelude.{ℕ, ◌+◌, ◌*◌, ◌^◌, Bool, false, if◌then◌else◌, List, [], ◌∷◌, ◌++◌, length, ℤ, Option, Some, None}
use Rattle.std.specs.Int.{w8, w16, w32, w64, cast_unsigned, from_bool}
use Rattle.byteorder.specs.Endian.{big_bytes}
use Rattle.ptpm_codec.specs.declared.identity.ClockIdentity.{ClockIdentity}
use Rattle.ptpm_codec.specs.declared.message.Action.{Action}
use Rattle.ptpm_codec.specs.PtpText.{ptp_text_octets}
use Rattle.ptpm_data.specs.declared.data_sets.ClockPrecedence.{ClockPrecedence}
use Rattle.ptpm_data.specs.declared.data_sets.DefaultDataSet.{DefaultDataSet}
use Rattle.ptpm_data.specs.declared.data_sets.CurrentDataSet.{CurrentDataSet}
use Rattle.ptpm_data.specs.declared.data_sets.ParentDataSet.{ParentDataSet}
use Rattle.ptpm_data.specs.declared.data_sets.TimePropertiesDataSet.{TimePropertiesDataSet}
use Rattle.ptpm_data.specs.declared.data_sets.PortDataSet.{PortDataSet}
use Rattle.ptpm_data.specs.declared.management_id.Layout.{Layout}
use Rattle.ptpm_data.specs.declared.management_id.Layout.TheVariants as layouts
use Rattle.ptpm_data.specs.ManagementId.{RowValue, row_of, has_action, is_of_port}
use Rattle.ptpm_data.specs.PortSetting.{octet_of, settings_octets}
use Rattle.ptpm_data.specs.PortState.{state_number}
use Rattle.ptpm_data.specs.Members.{DataSetsValue, port_of}

-- an Integer8, Integer16, Integer32 and Integer64
unfoldable pub i8_octet : ℤ → ℕ
i8_octet z = cast_unsigned w8 z

unfoldable pub i16_octets : ℤ → List ℕ
i16_octets z = big_bytes 2 (cast_unsigned w16 z)

unfoldable pub i32_octets : ℤ → List ℕ
i32_octets z = big_bytes 4 (cast_unsigned w32 z)

unfoldable pub i64_octets : ℤ → List ℕ
i64_octets z = big_bytes 8 (cast_unsigned w64 z)

-- a flag as this bit of its octet
abbrev pub bit : ℕ → Bool → ℕ
bit n flag = 2 ^ n * from_bool flag

-- priority1, clockQuality (class, accuracy, variance: 5.3.7) and priority2
unfoldable pub precedence_octets : ClockPrecedence → List ℕ
precedence_octets p = p.priority1 ∷ p.class ∷ p.accuracy ∷ big_bytes 2 p.variance ++ p.priority2 ∷ []

-- DEFAULT_DATA_SET (15.5.3.3.1); slaveOnly, bit 1 of the flags, is false in a boundary clock
unfoldable pub default_data_field : DefaultDataSet → ℕ → List ℕ
default_data_field d number_of_ports =
    bit 0 d.two_step ∷ 0 ∷ [] ++ big_bytes 2 number_of_ports
    ++ precedence_octets d.precedence ++ d.identity.0 ++ d.domain ∷ 0 ∷ []

-- CURRENT_DATA_SET (15.5.3.4.1)
unfoldable pub current_data_field : CurrentDataSet → List ℕ
current_data_field c = big_bytes 2 c.steps_removed ++ i64_octets c.offset_from_master ++ i64_octets c.mean_path_delay

-- PARENT_DATA_SET (15.5.3.5.1)
unfoldable pub parent_data_field : ParentDataSet → List ℕ
parent_data_field p =
    p.parent_port.clock.0 ++ big_bytes 2 p.parent_port.port ++ bit 0 p.parent_stats ∷ 0 ∷ [] ++ big_bytes 2 p.observed_variance
    ++ i32_octets p.observed_rate ++ precedence_octets p.precedence ++ p.grandmaster.0

-- TIME_PROPERTIES_DATA_SET (15.5.3.6.1)
unfoldable pub time_properties_data_field : TimePropertiesDataSet → List ℕ
time_properties_data_field t =
    i16_octets t.utc_offset
    ++ (bit 0 t.leap61 + bit 1 t.leap59 + bit 2 t.utc_valid + bit 3 t.ptp_timescale + bit 4 t.time_traceable
    + bit 5 t.frequency_traceable)
    ∷ t.time_source ∷ []

-- UTC_PROPERTIES (15.5.3.6.2)
unfoldable pub utc_properties_data_field : TimePropertiesDataSet → List ℕ
utc_properties_data_field t =
    i16_octets t.utc_offset ++ (bit 0 t.leap61 + bit 1 t.leap59 + bit 2 t.utc_valid) ∷ 0 ∷ []

-- a port's settings, and versionNumber: 2 in the lower nibble, 0 in the upper (this project's profile)
unfoldable pub port_settings_octets : PortDataSet → List ℕ
port_settings_octets p = settings_octets p.settings ++ 2 ∷ []

-- PORT_DATA_SET (15.5.3.7.1)
unfoldable pub port_data_field : ClockIdentity → ℕ → PortDataSet → List ℕ
port_data_field identity port p =
    identity.0 ++ big_bytes 2 port ++ state_number p.state ∷ i8_octet p.log_min_delay_req ∷ [] ++ i64_octets p.peer_delay
    ++ port_settings_octets p

-- one octet and a reserved one
abbrev pub octet_data_field : ℕ → List ℕ
octet_data_field n = n ∷ 0 ∷ []

-- what a port's members give; nothing if the clock lacks the port
abbrev pub field_of_port : (PortDataSet → List ℕ) → Option PortDataSet → List ℕ
field_of_port field None = []
field_of_port field (Some p) = field p

-- the dataField of an id of a port, by what its table entry says that it holds
unfoldable pub port_field_of : Layout → ClockIdentity → ℕ → PortDataSet → List ℕ
port_field_of layouts.PortDataSet identity port p = port_data_field identity port p
port_field_of (layouts.Setting s) identity port p = octet_data_field (octet_of (p.settings s))
port_field_of layouts.VersionNumber identity port p = octet_data_field 2
port_field_of _ identity port p = []

-- the dataField of an id of the clock, in the same way
unfoldable pub clock_field_of : Layout → DataSetsValue → List ℕ
clock_field_of layouts.UserDescription d = ptp_text_octets d.description
clock_field_of layouts.DefaultDataSet d = default_data_field d.default (length d.ports)
clock_field_of layouts.CurrentDataSet d = current_data_field d.current
clock_field_of layouts.ParentDataSet d = parent_data_field d.parent
clock_field_of layouts.TimePropertiesDataSet d = time_properties_data_field d.time
clock_field_of layouts.Priority1 d = octet_data_field d.default.precedence.priority1
clock_field_of layouts.Priority2 d = octet_data_field d.default.precedence.priority2
clock_field_of layouts.Domain d = octet_data_field d.default.domain
clock_field_of layouts.SlaveOnly d = octet_data_field 0
clock_field_of layouts.ClockAccuracy d = octet_data_field d.default.precedence.accuracy
clock_field_of layouts.UtcProperties d = utc_properties_data_field d.time
clock_field_of _ d = []

-- the dataField of the clock, or of one of its ports
abbrev pub data_field_of : Layout → Option ℕ → DataSetsValue → List ℕ
data_field_of layout None d = clock_field_of layout d
data_field_of layout (Some n) d = field_of_port (port_field_of layout d.default.identity n) (port_of n d)

-- whether an id permits an action
abbrev pub row_permits : Action → Option RowValue → Bool
row_permits action None = false
row_permits action (Some e) = has_action action e.actions

abbrev pub permits : Action → ℕ → Bool
permits action id = row_permits action (row_of id)

abbrev pub field_of_row : Option RowValue → Option ℕ → DataSetsValue → List ℕ
field_of_row None port d = []
field_of_row (Some e) port d = data_field_of e.layout port d

-- the dataField that the clock, or one of its ports, has under an id; nothing for one that is not in the table
abbrev pub data_field_at : ℕ → Option ℕ → DataSetsValue → List ℕ
data_field_at id port d = field_of_row (row_of id) port d

-- whose members an id shows: those of this port, or for an id of the clock the clock's own
abbrev pub port_shown : ℕ → ℕ → Option ℕ
port_shown id port = if is_of_port id then Some port else None

-- the dataField of an id; the port matters only for an id of a port
abbrev pub data_field_of_id : ℕ → ℕ → DataSetsValue → List ℕ
data_field_of_id id port d = data_field_at id (port_shown id port) d
