-- The management ids of this project's profile: their names, scopes and dataFields (IEEE 1588-2019, 15.5.2.3, table 59). Also
-- the actions and the SETs that the profile permits.
use Rattle.std.specs.Prelude.{ℕ, ◌==◌, Bool, true, false, if◌then◌else◌, List, [], ◌∷◌, map, Option, Some, None, find, codes, bytes_eq, bit_and}
use Prim.Native.String.{String}
use Rattle.ptpm_codec.specs.declared.message.Action.{Action}
use Rattle.ptpm_codec.specs.declared.message.Action.TheVariants as actions
use Rattle.ptpm_data.specs.declared.management_id.Scope.{Scope}
use Rattle.ptpm_data.specs.declared.management_id.Scope.TheVariants.{Clock, Port}
use Rattle.ptpm_data.specs.declared.management_id.Layout.{Layout}
use Rattle.ptpm_data.specs.declared.management_id.Layout.TheVariants.{NullPtpManagement, UserDescription, DefaultDataSet, CurrentDataSet, ParentDataSet, TimePropertiesDataSet, PortDataSet, Priority1, Priority2, Domain, SlaveOnly, Setting, VersionNumber, EnablePort, DisablePort, ClockAccuracy, UtcProperties}
use Rattle.ptpm_data.specs.declared.management_id.ManagementIdRow.{ManagementIdRow}
use Rattle.ptpm_data.specs.declared.port_setting.PortSetting.TheVariants.{LogAnnounceInterval, AnnounceReceiptTimeout, LogSyncInterval, DelayMechanism, LogMinPdelayReqInterval}
use Rattle.ptpm_data.specs.PortSetting as settings
use Rattle.ptpm_data.specs.SetForm.{SetField, NoSet, Empty, TextUpTo, AnyOctet, either◌to◌or◌, NotBothLeaps}

-- ---- sets of actions: GET is 1, SET is 2, COMMAND is 4

abbrev pub get : ℕ
get = 1

abbrev pub get_set : ℕ
get_set = 3

abbrev pub command : ℕ
command = 4

abbrev pub get_set_command : ℕ
get_set_command = 7

-- whether a set has an action
abbrev pub has_action : Action → ℕ → Bool
has_action actions.Get set = bit_and set 1 == 1
has_action actions.Set set = bit_and set 2 == 2
has_action actions.Response set = false
has_action actions.Command set = bit_and set 4 == 4
has_action actions.Acknowledge set = false

-- ---- the table

-- a managementId, its name in ASCII, whether it is of the clock or of each port, the permitted actions, and what a SET may be
pub record Line : Type 0 where
  pub id : ℕ
  pub name : List ℕ
  pub scope : Scope
  pub actions : ℕ
  pub set : SetField

abbrev pub clock : ℕ → String → ℕ → SetField → Line
clock id name actions set = record { id = id; name = codes name; scope = Clock; actions = actions; set = set }

abbrev pub port : ℕ → String → ℕ → SetField → Line
port id name actions set = record { id = id; name = codes name; scope = Port; actions = actions; set = set }

-- that of a port's setting
abbrev pub of_setting : settings.Setting → Line
of_setting s = record { id = s.id; name = s.id_name; scope = Port; actions = get_set; set = s.range }

-- the line of each id, by its layout
abbrev pub line : Layout → Line
line NullPtpManagement = port 0x0000 "NULL_PTP_MANAGEMENT" get_set_command Empty
line UserDescription = clock 0x0002 "USER_DESCRIPTION" get_set (TextUpTo 128)
line DefaultDataSet = clock 0x2000 "DEFAULT_DATA_SET" get NoSet
line CurrentDataSet = clock 0x2001 "CURRENT_DATA_SET" get NoSet
line ParentDataSet = clock 0x2002 "PARENT_DATA_SET" get NoSet
line TimePropertiesDataSet = clock 0x2003 "TIME_PROPERTIES_DATA_SET" get NoSet
line PortDataSet = port 0x2004 "PORT_DATA_SET" get NoSet
line Priority1 = clock 0x2005 "PRIORITY1" get_set AnyOctet
line Priority2 = clock 0x2006 "PRIORITY2" get_set AnyOctet
line Domain = clock 0x2007 "DOMAIN" get_set AnyOctet
line SlaveOnly = clock 0x2008 "SLAVE_ONLY" get NoSet
line (Setting s) = of_setting (settings.row s)
line VersionNumber = port 0x200c "VERSION_NUMBER" get NoSet
line EnablePort = port 0x200d "ENABLE_PORT" command NoSet
line DisablePort = port 0x200e "DISABLE_PORT" command NoSet
line ClockAccuracy = clock 0x2010 "CLOCK_ACCURACY" get_set (either 0x17 to 0x31 or 0xfe)
line UtcProperties = clock 0x2011 "UTC_PROPERTIES" get_set NotBothLeaps

-- what the dataField of a SET may be, if an id's dataField has this layout
unfoldable pub set_of : Layout → SetField
set_of layout = (line layout).set

-- a row of the table, as the program has it: its layout says what its dataField holds
pub record RowValue : Type 0 where
  pub id : ℕ
  pub name : List ℕ
  pub scope : Scope
  pub actions : ℕ
  pub layout : Layout

abbrev pub row_with : ℕ → List ℕ → Scope → ℕ → Layout → RowValue
row_with id name scope actions layout = record { id = id; name = name; scope = scope; actions = actions; layout = layout }

abbrev pub row_at : Layout → RowValue
row_at layout = let l = line layout in row_with l.id l.name l.scope l.actions layout

abbrev pub id_table : List RowValue
id_table =
    map row_at (
    NullPtpManagement ∷ UserDescription ∷ DefaultDataSet ∷ CurrentDataSet ∷ ParentDataSet
    ∷ TimePropertiesDataSet ∷ PortDataSet ∷ Priority1 ∷ Priority2 ∷ Domain ∷ SlaveOnly ∷ Setting LogAnnounceInterval
    ∷ Setting AnnounceReceiptTimeout ∷ Setting LogSyncInterval ∷ VersionNumber ∷ EnablePort ∷ DisablePort ∷ ClockAccuracy
    ∷ UtcProperties ∷ Setting DelayMechanism ∷ Setting LogMinPdelayReqInterval ∷ [])

-- ---- look-ups

unfoldable pub row_of : ℕ → Option RowValue
row_of id = find (λ e. e.id == id) id_table

unfoldable pub row_named : List ℕ → Option RowValue
row_named name = find (λ e. bytes_eq e.name name) id_table

-- a row, if it has that name
abbrev pub if_named : List ℕ → Option RowValue → Option RowValue
if_named name None = None
if_named name (Some e) = if bytes_eq e.name name then Some e else None

-- a row of the program, as a value
abbrev pub row_value : ManagementIdRow → RowValue
row_value r = record { id = r.id; name = r.name.now; scope = r.scope; actions = r.actions.0; layout = r.layout }

abbrev pub is_port_scope : Scope → Bool
is_port_scope Clock = false
is_port_scope Port = true

abbrev pub is_port_row : Option RowValue → Bool
is_port_row None = false
is_port_row (Some e) = is_port_scope e.scope

-- whether an id is of the ports; one that is not in the table counts as of the clock (this project's profile)
abbrev pub is_of_port : ℕ → Bool
is_of_port id = is_port_row (row_of id)
