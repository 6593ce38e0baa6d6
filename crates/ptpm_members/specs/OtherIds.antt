-- Ids outside this profile's table that other clocks have: five of the standard (IEEE 1588-2019, 15.5.2.3, table 59) and five of
-- linuxptp. Their dataFields are only read. The tables are those of the program.
use Rattle.std.specs.Prelude.{ℕ, ◌%◌, ◌==◌, nat_le, Bool, ◌&&◌, if◌then◌else◌, List, [], ◌∷◌, length, drop, Option, Some, None, codes, find, option_map}
use Rattle.std.specs.Option.{option_or}
use Rattle.std.specs.Str.{str_eq_ignore_ascii_case}
use Rattle.ptpm_codec.specs.PtpText.{is_ptp_text}
use Rattle.ptpm_data.specs.ManagementId.{row_of}
use Rattle.ptpm_members.specs.declared.forms.Field.{Field}
use Rattle.ptpm_members.specs.declared.other_ids.OtherId.{OtherId}
use Rattle.ptpm_members.specs.declared.other_ids.OtherId.TheVariants as ids
use Rattle.ptpm_members.specs.declared.other_ids.TheConstants.{CLOCK_DESCRIPTION, GRANDMASTER_SETTINGS, PATH_TRACE_LIST, PORT_DATA_SET, PORT_PROPERTIES, PORT_STATISTICS, TIME, TIMESCALE_PROPERTIES, TIME_STATUS, TRACEABILITY_PROPERTIES}
use Rattle.ptpm_members.specs.Description.{is_clock_description}

abbrev pub other_number : OtherId → ℕ
other_number ids.ClockDescription = 0x0001
other_number ids.Time = 0x200f
other_number ids.TraceabilityProperties = 0x2012
other_number ids.TimescaleProperties = 0x2013
other_number ids.PathTraceList = 0x2015
other_number ids.TimeStatus = 0xc000
other_number ids.GrandmasterSettings = 0xc001
other_number ids.PortDataSet = 0xc002
other_number ids.PortProperties = 0xc004
other_number ids.PortStatistics = 0xc005

abbrev pub other_ids : List OtherId
other_ids =
    ids.ClockDescription ∷ ids.Time ∷ ids.TraceabilityProperties ∷ ids.TimescaleProperties ∷ ids.PathTraceList ∷ ids.TimeStatus
    ∷ ids.GrandmasterSettings ∷ ids.PortDataSet ∷ ids.PortProperties ∷ ids.PortStatistics ∷ []

-- the one with a number
unfoldable pub other_of : ℕ → Option OtherId
other_of number = find (λ id. other_number id == number) other_ids

abbrev pub other_name : OtherId → List ℕ
other_name ids.ClockDescription = codes "CLOCK_DESCRIPTION"
other_name ids.Time = codes "TIME"
other_name ids.TraceabilityProperties = codes "TRACEABILITY_PROPERTIES"
other_name ids.TimescaleProperties = codes "TIMESCALE_PROPERTIES"
other_name ids.PathTraceList = codes "PATH_TRACE_LIST"
other_name ids.TimeStatus = codes "TIME_STATUS_NP"
other_name ids.GrandmasterSettings = codes "GRANDMASTER_SETTINGS_NP"
other_name ids.PortDataSet = codes "PORT_DATA_SET_NP"
other_name ids.PortProperties = codes "PORT_PROPERTIES_NP"
other_name ids.PortStatistics = codes "PORT_STATS_NP"

-- the name of an id: one of this profile's table, or one that is only read
abbrev pub name_of_id : ℕ → Option (List ℕ)
name_of_id id = option_or (option_map (λ row. row.name) (row_of id)) (option_map other_name (other_of id))

-- the first of these with a name, in either case
abbrev pub other_named_in : List ℕ → List OtherId → Option OtherId
other_named_in name ids = find (λ id. str_eq_ignore_ascii_case name (other_name id)) ids

unfoldable pub other_named : List ℕ → Option OtherId
other_named name = other_named_in name other_ids

abbrev pub other_fields : OtherId → List Field
other_fields ids.ClockDescription = CLOCK_DESCRIPTION
other_fields ids.Time = TIME
other_fields ids.TraceabilityProperties = TRACEABILITY_PROPERTIES
other_fields ids.TimescaleProperties = TIMESCALE_PROPERTIES
other_fields ids.PathTraceList = PATH_TRACE_LIST
other_fields ids.TimeStatus = TIME_STATUS
other_fields ids.GrandmasterSettings = GRANDMASTER_SETTINGS
other_fields ids.PortDataSet = PORT_DATA_SET
other_fields ids.PortProperties = PORT_PROPERTIES
other_fields ids.PortStatistics = PORT_STATISTICS

-- how many octets a dataField has; 0 if it says that itself
abbrev pub other_size : OtherId → ℕ
other_size ids.Time = 10
other_size ids.TraceabilityProperties = 2
other_size ids.TimescaleProperties = 2
other_size ids.TimeStatus = 50
other_size ids.GrandmasterSettings = 8
other_size ids.PortDataSet = 8
other_size ids.PortStatistics = 266
other_size id = 0

-- whether octets are a dataField of the id: a PATH_TRACE_LIST has an identity at least, and PORT_PROPERTIES_NP ends in a text
unfoldable pub is_whole_other : OtherId → List ℕ → Bool
is_whole_other ids.ClockDescription octets = is_clock_description octets
is_whole_other ids.PathTraceList octets = nat_le 8 (length octets) && (length octets % 8 == 0)
is_whole_other ids.PortProperties octets = nat_le 12 (length octets) && is_ptp_text (drop 12 octets)
is_whole_other id octets = length octets == other_size id

abbrev pub fields_of_other : Option OtherId → List ℕ → List Field
fields_of_other None octets = []
fields_of_other (Some id) octets = if is_whole_other id octets then other_fields id else []
