-- The image of a clock's data sets: the octets in which they outlast the clock's power. The members come in the order in
-- which a start judges them, the text after the clock's other members, and then the ports. Numbers of several octets have the
-- highest octet first, signed ones are in two's complement, and a flag is 0 or 1 (this project's profile).
use Rattle.std.specs.Prelude.{◌≡◌, ℕ, ◌^◌, ◌<◌, List, [], ◌∷◌, ◌++◌, length, drop, FitsSigned}
use Rattle.std.specs.Int.{from_bool, w8, w16, w32, w64}
use Rattle.std.specs.List.{All, flat_map}
use Rattle.byteorder.specs.Endian.{big_bytes}
use Rattle.ptpm_codec.specs.Canonical.{port_identity_octets}
use Rattle.ptpm_codec.specs.Message.{PortIdentityFits}
use Rattle.ptpm_data.specs.declared.data_sets.CurrentDataSet.{CurrentDataSet}
use Rattle.ptpm_data.specs.declared.data_sets.DefaultDataSet.{DefaultDataSet}
use Rattle.ptpm_data.specs.declared.data_sets.ParentDataSet.{ParentDataSet}
use Rattle.ptpm_data.specs.declared.data_sets.PortDataSet.{PortDataSet}
use Rattle.ptpm_data.specs.declared.data_sets.TimePropertiesDataSet.{TimePropertiesDataSet}
use Rattle.ptpm_data.specs.declared.port_setting.PortSetting.{PortSetting}
use Rattle.ptpm_data.specs.DataField.{current_data_field, i16_octets, i32_octets, i64_octets, i8_octet, precedence_octets}
use Rattle.ptpm_data.specs.Members.{DataSetsValue}
use Rattle.ptpm_data.specs.PortSetting.{octet_of, said_of, settings_octets}
use Rattle.ptpm_data.specs.PortState.{state_number}

-- ---- one data set after the other

-- identity, domain, two_step, priority1, clock_class, clock_accuracy, variance, priority2: 16 octets
unfoldable pub default_image : DefaultDataSet → List ℕ
default_image d = d.identity.0 ++ d.domain ∷ from_bool d.two_step ∷ [] ++ precedence_octets d.precedence

-- steps_removed, offset_from_master, mean_path_delay: 18 octets, those of a GET of CURRENT_DATA_SET
abbrev pub current_image : CurrentDataSet → List ℕ
current_image c = current_data_field c

-- parent_port, parent_stats, observed_variance, observed_rate, the grandmaster's priority1, class, accuracy, variance and
-- priority2, and its identity: 31 octets
unfoldable pub parent_image : ParentDataSet → List ℕ
parent_image p =
    port_identity_octets p.parent_port ++ from_bool p.parent_stats ∷ [] ++ big_bytes 2 p.observed_variance
    ++ i32_octets p.observed_rate ++ precedence_octets p.precedence ++ p.grandmaster.0

-- utc_offset, leap61, leap59, utc_valid, ptp_timescale, time_traceable, frequency_traceable, time_source: 9 octets
unfoldable pub time_image : TimePropertiesDataSet → List ℕ
time_image t =
    i16_octets t.utc_offset
    ++ from_bool t.leap61 ∷ from_bool t.leap59 ∷ from_bool t.utc_valid ∷ from_bool t.ptp_timescale ∷ from_bool t.time_traceable
    ∷ from_bool t.frequency_traceable ∷ t.time_source ∷ []

-- state, log_min_delay_req, peer_delay, and the five settings, an octet each: 15 octets
unfoldable pub port_image : PortDataSet → List ℕ
port_image p =
    state_number p.state ∷ i8_octet p.log_min_delay_req ∷ [] ++ i64_octets p.peer_delay ++ settings_octets p.settings

-- ---- the whole

-- the clock's members except its text: 74 octets
unfoldable pub clock_image : DataSetsValue → List ℕ
clock_image d = default_image d.default ++ current_image d.current ++ parent_image d.parent ++ time_image d.time

unfoldable pub ports_image : List PortDataSet → List ℕ
ports_image ports = flat_map port_image ports

-- the text and the ports, each after an octet with their number
unfoldable pub data_sets_octets : DataSetsValue → List ℕ
data_sets_octets d = clock_image d ++ length d.description ∷ d.description ++ length d.ports ∷ ports_image d.ports

-- octets that begin with the image of these data sets
abbrev pub BeginsWithImage : DataSetsValue → List ℕ → Type 0
BeginsWithImage d octets = octets ≡ data_sets_octets d ++ drop (length (data_sets_octets d)) octets

-- ---- values that have an image of their own: numbers of their types, and identities of eight octets

pub record DefaultFits (d : DefaultDataSet) : Type 0 where
  pub identity : length d.identity.0 ≡ 8
  pub variance : d.precedence.variance < 2 ^ 16

pub record CurrentFits (c : CurrentDataSet) : Type 0 where
  pub steps_removed : c.steps_removed < 2 ^ 16
  pub offset_from_master : FitsSigned w64 c.offset_from_master
  pub mean_path_delay : FitsSigned w64 c.mean_path_delay

pub record ParentFits (p : ParentDataSet) : Type 0 where
  pub parent_port : PortIdentityFits p.parent_port
  pub observed_variance : p.observed_variance < 2 ^ 16
  pub observed_rate : FitsSigned w32 p.observed_rate
  pub variance : p.precedence.variance < 2 ^ 16
  pub grandmaster : length p.grandmaster.0 ≡ 8

abbrev pub TimeFits : TimePropertiesDataSet → Type 0
TimeFits t = FitsSigned w16 t.utc_offset

pub record PortFits (p : PortDataSet) : Type 0 where
  pub log_min_delay_req : FitsSigned w8 p.log_min_delay_req
  pub peer_delay : FitsSigned w64 p.peer_delay
  -- an octet says each
  pub settings : (s : PortSetting) → said_of s (octet_of (p.settings s)) ≡ p.settings s

pub record DataSetsFit (d : DataSetsValue) : Type 0 where
  pub default : DefaultFits d.default
  pub current : CurrentFits d.current
  pub parent : ParentFits d.parent
  pub time : TimeFits d.time
  pub ports : All PortFits d.ports
