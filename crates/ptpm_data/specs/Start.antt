-- The data sets that a clock starts with (IEEE 1588-2019, clause 8; ranges, defaults and faults are this project's profile).
use Rattle.std.specs.Prelude.{◌≡◌, ℕ, ◌==◌, nat_lt, ℤ, pos, nat_abs, Bool, true, false, not, ◌&&◌, List, [], ◌∷◌, length, map, Option, Some, None, is_some, unwrap_or, option_map, Result, Ok, Err, IsOk, bytes_eq}
use Rattle.std.specs.List.{find}
use Rattle.std.specs.Option.{option_or}
use Rattle.ptpm_codec.specs.declared.identity.ClockIdentity.{ClockIdentity}
use Rattle.ptpm_codec.specs.Ordered.{first_of}
use Rattle.ptpm_data.specs.declared.members.Member.{Member}
use Rattle.ptpm_data.specs.declared.members.Member.TheVariants as members
use Rattle.ptpm_data.specs.declared.port_state.PortState.TheVariants as states
use Rattle.ptpm_data.specs.declared.port_setting.PortSetting.{PortSetting}
use Rattle.ptpm_data.specs.declared.port_setting.PortSetting.TheVariants.{LogAnnounceInterval, AnnounceReceiptTimeout, LogSyncInterval, DelayMechanism, LogMinPdelayReqInterval}
use Rattle.ptpm_data.specs.declared.ports.TheConstants.{INLINE_PORTS}
use Rattle.ptpm_data.specs.declared.start.ClockStart.{ClockStart}
use Rattle.ptpm_data.specs.declared.start.PortStart.{PortStart}
use Rattle.ptpm_data.specs.declared.start.StartError.{StartError}
use Rattle.ptpm_data.specs.declared.start.StartFault.{StartFault}
use Rattle.ptpm_data.specs.declared.start.StartFault.TheVariants as faults
use Rattle.ptpm_data.specs.declared.start.StartError.TheVariants.{NoPorts, TooManyPorts, BadValue, GrandmasterDiffers}
use Rattle.ptpm_data.specs.declared.data_sets.ClockPrecedence.{ClockPrecedence}
use Rattle.ptpm_data.specs.declared.data_sets.DefaultDataSet.{DefaultDataSet}
use Rattle.ptpm_data.specs.declared.data_sets.CurrentDataSet.{CurrentDataSet}
use Rattle.ptpm_data.specs.declared.data_sets.ParentDataSet.{ParentDataSet}
use Rattle.ptpm_data.specs.declared.data_sets.TimePropertiesDataSet.{TimePropertiesDataSet}
use Rattle.ptpm_data.specs.declared.data_sets.PortDataSet.{PortDataSet}
use Rattle.ptpm_data.specs.Members.{DataSetsValue}
use Rattle.ptpm_data.specs.Observation.{grandmaster_differs}
use Rattle.ptpm_data.specs.PortSetting.{default_settings, port_settings}
use Rattle.ptpm_data.specs.PortState.{state_of}
use Rattle.ptpm_data.specs.Ranges.{all_ones, is_clock_accuracy, is_description, is_in_range}

-- ---- a port's settings in its start

abbrev pub start_settings : PortStart → PortSetting → ℤ
start_settings p LogAnnounceInterval = p.log_announce
start_settings p AnnounceReceiptTimeout = pos p.receipt_timeout
start_settings p LogSyncInterval = p.log_sync
start_settings p DelayMechanism = pos p.delay_mechanism
start_settings p LogMinPdelayReqInterval = p.log_min_pdelay

-- the start with these settings; some of them are octets
abbrev pub port_start_with : ℕ → ℤ → ℤ → (PortSetting → ℤ) → PortStart
port_start_with state log_min_delay_req peer_delay settings = record {
  state = state;
  log_min_delay_req = log_min_delay_req;
  peer_delay = peer_delay;
  log_announce = settings LogAnnounceInterval;
  receipt_timeout = nat_abs (settings AnnounceReceiptTimeout);
  log_sync = settings LogSyncInterval;
  delay_mechanism = nat_abs (settings DelayMechanism);
  log_min_pdelay = settings LogMinPdelayReqInterval;
}

-- ---- defaults

abbrev pub default_clock : ClockIdentity → ℕ → ClockStart
default_clock identity domain = record {
  identity = identity;
  domain = domain;
  user_description = record { items = [] };
  two_step = true;
  priority1 = 128;
  clock_class = 248;
  clock_accuracy = 0xfe;
  variance = 65535;
  priority2 = 128;
  steps_removed = 0;
  offset_from_master = pos 0;
  mean_path_delay = pos 0;
  parent_port = None;
  parent_stats = false;
  observed_variance = 65535;
  observed_rate = pos 2147483647;
  grandmaster_priority1 = None;
  grandmaster_class = None;
  grandmaster_accuracy = None;
  grandmaster_variance = None;
  grandmaster_priority2 = None;
  grandmaster = None;
  utc_offset = pos 37;
  leap61 = false;
  leap59 = false;
  utc_valid = false;
  ptp_timescale = false;
  time_traceable = false;
  frequency_traceable = false;
  time_source = 160;
}

-- the identity of no clock
abbrev pub no_identity : ClockIdentity
no_identity = record { 0 = 0 ∷ 0 ∷ 0 ∷ 0 ∷ 0 ∷ 0 ∷ 0 ∷ 0 ∷ [] }

abbrev pub default_port : PortStart
default_port = port_start_with 6 (pos 0) (pos 0) default_settings

-- ---- the data sets of a start; if a start gives none, the clock's own value

abbrev pub own_precedence : ClockStart → ClockPrecedence
own_precedence c = record {
  priority1 = c.priority1;
  class = c.clock_class;
  accuracy = c.clock_accuracy;
  variance = c.variance;
  priority2 = c.priority2;
}

abbrev pub grandmaster_precedence : ClockStart → ClockPrecedence
grandmaster_precedence c = record {
  priority1 = unwrap_or c.grandmaster_priority1 c.priority1;
  class = unwrap_or c.grandmaster_class c.clock_class;
  accuracy = unwrap_or c.grandmaster_accuracy c.clock_accuracy;
  variance = unwrap_or c.grandmaster_variance c.variance;
  priority2 = unwrap_or c.grandmaster_priority2 c.priority2;
}

abbrev pub default_data_set : ClockStart → DefaultDataSet
default_data_set c = record { identity = c.identity; domain = c.domain; two_step = c.two_step; precedence = own_precedence c }

abbrev pub current_data_set : ClockStart → CurrentDataSet
current_data_set c = record {
  steps_removed = c.steps_removed;
  offset_from_master = c.offset_from_master;
  mean_path_delay = c.mean_path_delay;
}

abbrev pub parent_data_set : ClockStart → ParentDataSet
parent_data_set c = record {
  parent_port = unwrap_or c.parent_port (record { clock = c.identity; port = 0 });
  parent_stats = c.parent_stats;
  observed_variance = c.observed_variance;
  observed_rate = c.observed_rate;
  grandmaster = unwrap_or c.grandmaster c.identity;
  precedence = grandmaster_precedence c;
}

abbrev pub time_data_set : ClockStart → TimePropertiesDataSet
time_data_set c = record {
  utc_offset = c.utc_offset;
  leap61 = c.leap61;
  leap59 = c.leap59;
  utc_valid = c.utc_valid;
  ptp_timescale = c.ptp_timescale;
  time_traceable = c.time_traceable;
  frequency_traceable = c.frequency_traceable;
  time_source = c.time_source;
}

-- of a port in whose start there is no fault, so that its state is that of the number
abbrev pub port_data_set : PortStart → PortDataSet
port_data_set p = record {
  state = unwrap_or (state_of p.state) states.Initializing;
  log_min_delay_req = p.log_min_delay_req;
  peer_delay = p.peer_delay;
  settings = start_settings p;
}

abbrev pub started : ClockStart → List PortStart → DataSetsValue
started c ports = record {
  default = default_data_set c;
  description = c.user_description.items;
  current = current_data_set c;
  parent = parent_data_set c;
  time = time_data_set c;
  ports = map port_data_set ports;
}

-- ---- faults: the first that holds

-- of the number of ports, if at most that many have room
unfoldable pub count_fault : ℕ → ℕ → Option StartError
count_fault most count = first_of ((count == 0, NoPorts) ∷ (nat_lt most count, TooManyPorts) ∷ [])

-- the members that a start judges, in this order; the others may have every value of their types
abbrev pub judged_of_clock : List Member
judged_of_clock = members.Identity ∷ members.UserDescription ∷ members.ClockAccuracy ∷ members.Leap59 ∷ []

abbrev pub judged_of_port : List Member
judged_of_port = members.State ∷ map members.Setting port_settings

-- a member is in its range
abbrev pub is_in_clock_range : ClockStart → Member → Bool
is_in_clock_range c members.Identity = not (bytes_eq c.identity.0 all_ones)
is_in_clock_range c members.UserDescription = is_description c.user_description.items
is_in_clock_range c members.ClockAccuracy = is_clock_accuracy c.clock_accuracy
is_in_clock_range c members.Leap59 = not (c.leap61 && c.leap59)
is_in_clock_range c _ = true

abbrev pub is_in_port_range : PortStart → Member → Bool
is_in_port_range p members.State = is_some (state_of p.state)
is_in_port_range p (members.Setting s) = is_in_range s (start_settings p s)
is_in_port_range p _ = true

-- of the first of some members that is not in its range
abbrev pub first_out : (Member → Bool) → List Member → Option StartError
first_out is_in ms = option_map BadValue (find (λ m. not (is_in m)) ms)

unfoldable pub clock_fault : ClockStart → Option StartError
clock_fault c = first_out (is_in_clock_range c) judged_of_clock

unfoldable pub port_fault : PortStart → Option StartError
port_fault p = first_out (is_in_port_range p) judged_of_port

-- of the first port that has one
unfoldable pub ports_fault : List PortStart → Option StartError
ports_fault [] = None
ports_fault (p ∷ ps) = option_or (port_fault p) (ports_fault ps)

-- of a clock that is its own grandmaster: a priority or quality of the grandmaster is not its own
unfoldable pub grandmaster_fault : DefaultDataSet → ParentDataSet → Option StartError
grandmaster_fault default parent = first_of (
    (grandmaster_differs default parent, GrandmasterDiffers) ∷ [])

-- in this order
abbrev pub start_fault : ℕ → ClockStart → List PortStart → Option StartError
start_fault most c ports =
    option_or (count_fault most (length ports))
    (option_or (clock_fault c)
    (option_or (ports_fault ports)
    (grandmaster_fault (default_data_set c) (parent_data_set c))))

-- ---- the answer: the value, if there is no fault

abbrev pub unless : {A E : Type 0} → Option E → A → Result A E
unless None a = Ok a
unless (Some e) a = Err e

unfoldable pub port_start_of : PortStart → Result PortDataSet StartError
port_start_of p = unless (port_fault p) (port_data_set p)

-- of a clock, if at most that many ports have room
unfoldable pub start_within : ℕ → ClockStart → List PortStart → Result DataSetsValue StartError
start_within most c ports = unless (start_fault most c ports) (started c ports)

-- of a clock that takes no memory
abbrev pub start_of : ClockStart → List PortStart → Result DataSetsValue StartError
start_of c ports = start_within INLINE_PORTS c ports

-- why a clock does not start in memory, which is asked for last
abbrev pub IsWhyNot : StartFault → Result DataSetsValue StartError → Type 0
IsWhyNot (faults.Refused error) start = start ≡ Err error
IsWhyNot faults.OutOfMemory start = IsOk start
