-- The places of an image: the values that the octets give there, whether they are an image or not.
use Rattle.std.specs.Prelude.{◌≡◌, ℕ, ◌+◌, Bool, not, ◌==◌, List, take, drop, ℤ, Some}
use Rattle.std.specs.Int.{cast_signed, w8, w16, w32, w64}
use Rattle.byteorder.specs.Endian.{big_number}
use Rattle.ptpm_codec.specs.Layout.{clock_identity_at, number_at, octet, port_identity_at}
use Rattle.ptpm_data.specs.declared.data_sets.ClockPrecedence.{ClockPrecedence}
use Rattle.ptpm_data.specs.declared.data_sets.CurrentDataSet.{CurrentDataSet}
use Rattle.ptpm_data.specs.declared.data_sets.DefaultDataSet.{DefaultDataSet}
use Rattle.ptpm_data.specs.declared.data_sets.ParentDataSet.{ParentDataSet}
use Rattle.ptpm_data.specs.declared.data_sets.PortDataSet.{PortDataSet}
use Rattle.ptpm_data.specs.declared.data_sets.TimePropertiesDataSet.{TimePropertiesDataSet}
use Rattle.ptpm_data.specs.declared.start.ClockStart.{ClockStart}
use Rattle.ptpm_data.specs.declared.start.PortStart.{PortStart}
use Rattle.ptpm_data.specs.Image.{clock_image, ports_image}
use Rattle.ptpm_data.specs.Members.{DataSetsValue}
use Rattle.ptpm_data.specs.PortSetting.{said_by}
use Rattle.ptpm_data.specs.PortState.{state_number}
use Rattle.ptpm_data.specs.Start.{port_start_with}

-- ---- from a place on: a flag, a signed number, a precedence

-- an octet other than 0 and 1 is read as true; no image has one
unfoldable pub flag_at : ℕ → List ℕ → Bool
flag_at place octets = not (octet place octets == 0)

unfoldable pub i8_at : ℕ → List ℕ → ℤ
i8_at place octets = cast_signed w8 (octet place octets)

unfoldable pub i16_at : ℕ → List ℕ → ℤ
i16_at place octets = cast_signed w16 (big_number 2 (drop place octets))

unfoldable pub i32_at : ℕ → List ℕ → ℤ
i32_at place octets = cast_signed w32 (big_number 4 (drop place octets))

unfoldable pub i64_at : ℕ → List ℕ → ℤ
i64_at place octets = cast_signed w64 (big_number 8 (drop place octets))

unfoldable pub precedence_at : ℕ → List ℕ → ClockPrecedence
precedence_at place octets = record {
  priority1 = octet place octets;
  class = octet (place + 1) octets;
  accuracy = octet (place + 2) octets;
  variance = number_at (place + 3) octets;
  priority2 = octet (place + 5) octets;
}

-- ---- a data set from its octets

unfoldable pub default_read : List ℕ → DefaultDataSet
default_read octets = record {
  identity = clock_identity_at 0 octets;
  domain = octet 8 octets;
  two_step = flag_at 9 octets;
  precedence = precedence_at 10 octets;
}

unfoldable pub current_read : List ℕ → CurrentDataSet
current_read octets = record {
  steps_removed = number_at 0 octets;
  offset_from_master = i64_at 2 octets;
  mean_path_delay = i64_at 10 octets;
}

unfoldable pub parent_read : List ℕ → ParentDataSet
parent_read octets = record {
  parent_port = port_identity_at 0 octets;
  parent_stats = flag_at 10 octets;
  observed_variance = number_at 11 octets;
  observed_rate = i32_at 13 octets;
  precedence = precedence_at 17 octets;
  grandmaster = clock_identity_at 23 octets;
}

unfoldable pub time_read : List ℕ → TimePropertiesDataSet
time_read octets = record {
  utc_offset = i16_at 0 octets;
  leap61 = flag_at 2 octets;
  leap59 = flag_at 3 octets;
  utc_valid = flag_at 4 octets;
  ptp_timescale = flag_at 5 octets;
  time_traceable = flag_at 6 octets;
  frequency_traceable = flag_at 7 octets;
  time_source = octet 8 octets;
}

unfoldable pub port_read : List ℕ → PortStart
port_read octets =
    let own = take 10 octets in port_start_with (octet 0 own) (i8_at 1 own) (i64_at 2 own) (said_by (drop 10 octets))

-- ---- the start that gives each member its value

abbrev pub clock_start : DefaultDataSet → List ℕ → CurrentDataSet → ParentDataSet → TimePropertiesDataSet → ClockStart
clock_start d text c p t = record {
  identity = d.identity;
  domain = d.domain;
  user_description = record { items = text };
  two_step = d.two_step;
  priority1 = d.precedence.priority1;
  clock_class = d.precedence.class;
  clock_accuracy = d.precedence.accuracy;
  variance = d.precedence.variance;
  priority2 = d.precedence.priority2;
  steps_removed = c.steps_removed;
  offset_from_master = c.offset_from_master;
  mean_path_delay = c.mean_path_delay;
  parent_port = Some p.parent_port;
  parent_stats = p.parent_stats;
  observed_variance = p.observed_variance;
  observed_rate = p.observed_rate;
  grandmaster_priority1 = Some p.precedence.priority1;
  grandmaster_class = Some p.precedence.class;
  grandmaster_accuracy = Some p.precedence.accuracy;
  grandmaster_variance = Some p.precedence.variance;
  grandmaster_priority2 = Some p.precedence.priority2;
  grandmaster = Some p.grandmaster;
  utc_offset = t.utc_offset;
  leap61 = t.leap61;
  leap59 = t.leap59;
  utc_valid = t.utc_valid;
  ptp_timescale = t.ptp_timescale;
  time_traceable = t.time_traceable;
  frequency_traceable = t.frequency_traceable;
  time_source = t.time_source;
}

abbrev pub port_start : PortDataSet → PortStart
port_start p = port_start_with (state_number p.state) p.log_min_delay_req p.peer_delay p.settings

abbrev pub start_of_sets : DataSetsValue → ClockStart
start_of_sets d = clock_start d.default d.description d.current d.parent d.time

-- the start of a clock's 74 octets and its text
unfoldable pub clock_read : List ℕ → List ℕ → ClockStart
clock_read octets text =
    clock_start (default_read (take 16 octets)) text (current_read (take 18 (drop 16 octets)))
    (parent_read (take 31 (drop 18 (drop 16 octets)))) (time_read (drop 31 (drop 18 (drop 16 octets))))

-- octets that are those of the clock, the text and those of the ports in an image
pub record IsSplit (d : DataSetsValue) (octets text ports : List ℕ) : Type 0 where
  pub clock : octets ≡ clock_image d
  pub description : text ≡ d.description
  pub by_port : ports ≡ ports_image d.ports
