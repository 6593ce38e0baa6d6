-- What the settings of a host describe: the start of a clock, of its ports, and its managers.
use Rattle.std.specs.Prelude.{ℕ, ◌==◌, min, Bool, not, if◌then◌else◌, List, [], ◌∷◌, take, map, Option, Some, None}
use Rattle.ptpm_codec.specs.declared.identity.ClockIdentity.{ClockIdentity}
use Rattle.ptpm_codec.specs.declared.identity.PortIdentity.{PortIdentity}
use Rattle.ptpm_codec.specs.Identity.{same_clock}
use Rattle.ptpm_data.specs.declared.rights.Rights.{Rights}
use Rattle.ptpm_data.specs.declared.start.ClockStart.{ClockStart}
use Rattle.ptpm_data.specs.declared.start.PortStart.{PortStart}
use Rattle.ptpm_host.specs.declared.settings.ClockSettings.{ClockSettings}
use Rattle.ptpm_host.specs.declared.settings.ManagerSettings.{ManagerSettings}
use Rattle.ptpm_host.specs.declared.settings.PortSettings.{PortSettings}

-- a flag is set if it is not 0
abbrev pub is_set : ℕ → Bool
is_set flag = not (flag == 0)

-- a value, if its flag is set
abbrev pub given : {A : Type 0} → ℕ → A → Option A
given flag a = if flag == 0 then None else Some a

-- the octets of userDescription that count, at most all that there are
abbrev pub text : ClockSettings → List ℕ
text s = take (min s.user_description_size 129) s.user_description

abbrev pub parent_port : ClockSettings → Option PortIdentity
parent_port s = given s.has_parent_port (record { clock = record { 0 = s.parent_port_clock }; port = s.parent_port_number })

abbrev pub clock_start : ClockSettings → ClockStart
clock_start s = record {
  identity = record { 0 = s.identity };
  domain = s.domain;
  user_description = record { items = text s };
  two_step = is_set s.two_step;
  priority1 = s.priority1;
  clock_class = s.clock_class;
  clock_accuracy = s.clock_accuracy;
  variance = s.variance;
  priority2 = s.priority2;
  steps_removed = s.steps_removed;
  offset_from_master = s.offset_from_master;
  mean_path_delay = s.mean_path_delay;
  parent_port = parent_port s;
  parent_stats = is_set s.parent_stats;
  observed_variance = s.observed_variance;
  observed_rate = s.observed_rate;
  grandmaster_priority1 = given s.has_grandmaster_priority1 s.grandmaster_priority1;
  grandmaster_class = given s.has_grandmaster_class s.grandmaster_class;
  grandmaster_accuracy = given s.has_grandmaster_accuracy s.grandmaster_accuracy;
  grandmaster_variance = given s.has_grandmaster_variance s.grandmaster_variance;
  grandmaster_priority2 = given s.has_grandmaster_priority2 s.grandmaster_priority2;
  grandmaster = given s.has_grandmaster (record { 0 = s.grandmaster });
  utc_offset = s.utc_offset;
  leap61 = is_set s.leap61;
  leap59 = is_set s.leap59;
  utc_valid = is_set s.utc_valid;
  ptp_timescale = is_set s.ptp_timescale;
  time_traceable = is_set s.time_traceable;
  frequency_traceable = is_set s.frequency_traceable;
  time_source = s.time_source;
}

abbrev pub port_start : PortSettings → PortStart
port_start s = record {
  state = s.state;
  log_min_delay_req = s.log_min_delay_req;
  peer_delay = s.peer_delay;
  log_announce = s.log_announce;
  receipt_timeout = s.receipt_timeout;
  log_sync = s.log_sync;
  delay_mechanism = s.delay_mechanism;
  log_min_pdelay = s.log_min_pdelay;
}

abbrev pub manager_of : ManagerSettings → PortIdentity × Rights
manager_of s = (record { clock = record { 0 = s.clock }; port = s.port }, record { 0 = s.rights })

abbrev pub configured : List ManagerSettings → List (PortIdentity × Rights)
configured managers = map manager_of managers

-- the identity that a host writes over: all zeros, which no clock has
abbrev pub default_identity : ClockIdentity
default_identity = record { 0 = 0 ∷ 0 ∷ 0 ∷ 0 ∷ 0 ∷ 0 ∷ 0 ∷ 0 ∷ [] }

abbrev pub is_zero : ClockIdentity → Bool
is_zero identity = same_clock identity default_identity
