-- Which members the dataField of each id has, and what its octets say of each (IEEE 1588-2019, 15.5.3). The tables are those
-- of the program.
use Rattle.std.specs.Prelude.{◌≡◌, ℕ, ◌+◌, ◌-◌, ◌%◌, ◌==◌, Bool, if◌then◌else◌, bit_and, pos, List, [], length, slice_get, take, drop, Option, Some, None}
use Rattle.byteorder.specs.Endian.{big_number, little_number, twos_complement}
use Rattle.ptpm_codec.specs.Layout.{even_up, octet}
use Rattle.ptpm_codec.specs.PtpText.{is_ptp_text, ptp_text}
use Rattle.ptpm_data.specs.declared.management_id.Layout.{Layout}
use Rattle.ptpm_data.specs.declared.management_id.Layout.TheVariants as layouts
use Rattle.ptpm_data.specs.declared.members.Member.TheVariants as sets
use Rattle.ptpm_data.specs.declared.port_setting.PortSetting.TheVariants as settings
use Rattle.ptpm_data.specs.ManagementId.{RowValue, row_of}
use Rattle.ptpm_data.specs.MemberMap.{MemberValue, Number, OfClock, OfPort, Octets, PortOf, natural, value_of}
use Rattle.ptpm_data.specs.Members.{DataSetsValue}
use Rattle.ptpm_members.specs.Description.{part_on}
use Rattle.ptpm_members.specs.declared.forms.Field.{Field}
use Rattle.ptpm_members.specs.declared.forms.Form.{Form}
use Rattle.ptpm_members.specs.declared.forms.Form.TheVariants as forms
use Rattle.ptpm_members.specs.declared.names.Member.{Member}
use Rattle.ptpm_members.specs.declared.names.Member.TheVariants as members
use Rattle.ptpm_members.specs.declared.tables.TheConstants.{ANNOUNCE_RECEIPT_TIMEOUT, CLOCK_ACCURACY, CURRENT_DATA_SET, DEFAULT_DATA_SET, DELAY_MECHANISM, DOMAIN, LOG_ANNOUNCE_INTERVAL, LOG_MIN_PDELAY_REQ_INTERVAL, LOG_SYNC_INTERVAL, PARENT_DATA_SET, PORT_DATA_SET, PRIORITY1, PRIORITY2, SLAVE_ONLY, TIME_PROPERTIES_DATA_SET, USER_DESCRIPTION, UTC_PROPERTIES, VERSION_NUMBER}

-- ---- the members of a dataField

abbrev pub fields_of : Layout → List Field
fields_of layouts.UserDescription = USER_DESCRIPTION
fields_of layouts.DefaultDataSet = DEFAULT_DATA_SET
fields_of layouts.CurrentDataSet = CURRENT_DATA_SET
fields_of layouts.ParentDataSet = PARENT_DATA_SET
fields_of layouts.TimePropertiesDataSet = TIME_PROPERTIES_DATA_SET
fields_of layouts.PortDataSet = PORT_DATA_SET
fields_of layouts.Priority1 = PRIORITY1
fields_of layouts.Priority2 = PRIORITY2
fields_of layouts.Domain = DOMAIN
fields_of layouts.SlaveOnly = SLAVE_ONLY
fields_of (layouts.Setting settings.LogAnnounceInterval) = LOG_ANNOUNCE_INTERVAL
fields_of (layouts.Setting settings.AnnounceReceiptTimeout) = ANNOUNCE_RECEIPT_TIMEOUT
fields_of (layouts.Setting settings.LogSyncInterval) = LOG_SYNC_INTERVAL
fields_of layouts.VersionNumber = VERSION_NUMBER
fields_of layouts.ClockAccuracy = CLOCK_ACCURACY
fields_of layouts.UtcProperties = UTC_PROPERTIES
fields_of (layouts.Setting settings.DelayMechanism) = DELAY_MECHANISM
fields_of (layouts.Setting settings.LogMinPdelayReqInterval) = LOG_MIN_PDELAY_REQ_INTERVAL
fields_of layouts.NullPtpManagement = []
fields_of layouts.EnablePort = []
fields_of layouts.DisablePort = []

abbrev pub fields_of_row : Option RowValue → List Field
fields_of_row None = []
fields_of_row (Some row) = fields_of row.layout

-- the members of an id's dataField; none if the table lacks the id
abbrev pub fields_of_id : ℕ → List Field
fields_of_id id = fields_of_row (row_of id)

-- ---- how many octets there are

-- those that a member takes; 0 if the octets say it themselves
abbrev pub form_size : Form → ℕ
form_size (forms.Unsigned n) = n
form_size (forms.Hexadecimal n) = n
form_size (forms.Signed n) = n
form_size (forms.Flag mask) = 1
form_size forms.EitherFlag = 1
form_size forms.LowNibble = 1
form_size forms.TimeInterval = 8
form_size forms.ClockIdentity = 8
form_size forms.PortIdentity = 10
form_size (forms.Named enumeration) = 1
form_size forms.Text = 0
form_size (forms.LittleEndian n) = n
form_size (forms.Octets n) = n
form_size forms.ClockIdentities = 0
form_size (forms.Described part) = 0

-- the place at which the last of the members ends
abbrev pub end_of : Option Field → ℕ
end_of None = 0
end_of (Some f) = f.1 + form_size f.2

abbrev pub fields_end : List Field → ℕ
fields_end fs = end_of (slice_get fs (length fs - 1))

-- a dataField has an even number of octets
abbrev pub field_size : Layout → ℕ
field_size layout = even_up (fields_end (fields_of layout))

-- whether the octets are a dataField of this layout, by their number
unfoldable pub is_whole : Layout → List ℕ → Bool
is_whole layouts.UserDescription octets = is_ptp_text octets
is_whole layout octets = length octets == field_size layout

abbrev pub is_whole_of_row : Option RowValue → List ℕ → Bool
is_whole_of_row None octets = length octets == 0
is_whole_of_row (Some row) octets = is_whole row.layout octets

abbrev pub is_whole_of_id : ℕ → List ℕ → Bool
is_whole_of_id id octets = is_whole_of_row (row_of id) octets

-- ---- what they say

-- the value of a member whose octets come first
abbrev pub form_value : Form → List ℕ → MemberValue
form_value (forms.Unsigned n) octets = Number (pos (big_number n octets))
form_value (forms.Hexadecimal n) octets = Number (pos (big_number n octets))
form_value (forms.Signed n) octets = Number (twos_complement n (big_number n octets))
form_value (forms.Flag mask) octets = Number (pos (if bit_and (octet 0 octets) mask == 0 then 0 else 1))
form_value forms.EitherFlag octets = Number (pos (if octet 0 octets % 4 == 0 then 0 else 1))
form_value forms.LowNibble octets = Number (pos (octet 0 octets % 16))
form_value forms.TimeInterval octets = Number (twos_complement 8 (big_number 8 octets))
form_value forms.ClockIdentity octets = Octets (take 8 octets)
form_value forms.PortIdentity octets = PortOf (take 8 octets) (big_number 2 (drop 8 octets))
form_value (forms.Named enumeration) octets = Number (pos (octet 0 octets))
form_value forms.Text octets = Octets (ptp_text octets)
form_value (forms.LittleEndian n) octets = Number (pos (little_number n octets))
form_value (forms.Octets n) octets = Octets (take n octets)
form_value forms.ClockIdentities octets = Octets octets
form_value (forms.Described part) octets = Octets (part_on part octets)

-- the value of a member, by the octets at its place
abbrev pub field_value : Field → List ℕ → MemberValue
field_value f octets = form_value f.2 (drop f.1 octets)

-- ---- what they are to say

-- the value of a member in data sets: of the clock, or of one of its ports. The members of ids that are only read have none
abbrev pub member_value : Member → Option ℕ → DataSetsValue → Option MemberValue
member_value (members.DataSet member) None d = value_of (OfClock member) d
member_value (members.DataSet member) (Some port) d = value_of (OfPort port member) d
member_value members.NumberPorts port d = natural (length d.ports)
member_value members.SlaveOnly port d = natural 0
member_value members.PortIdentity None d = None
member_value members.PortIdentity (Some port) d = Some (PortOf d.default.identity.0 port)
member_value members.VersionNumber port d = natural 2
member_value members.ClockAccuracy port d = value_of (OfClock sets.ClockAccuracy) d
member_value other port d = None

-- the octets at the place of a member are its value
abbrev pub IsSaid : Option ℕ → DataSetsValue → List ℕ → Field → Type 0
IsSaid port d octets f = member_value f.0 port d ≡ Some (field_value f octets)
