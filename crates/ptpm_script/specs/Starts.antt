-- How the clocks of a network file and their ports start: of each member as its key has it, or as this project's profile says.
use Rattle.std.specs.Prelude.{ℕ, codes, unwrap_or}
use Rattle.ptpm_codec.specs.declared.identity.ClockIdentity.{ClockIdentity}
use Rattle.ptpm_data.specs.Start.{default_clock, default_port}
use Rattle.ptpm_data.specs.declared.start.ClockStart.{ClockStart}
use Rattle.ptpm_data.specs.declared.start.PortStart.{PortStart}
use Rattle.toml.specs.Data.{Members}
use Rattle.ptpm_script.specs.Values.{clock_at, description_at, flag_at, integer_at, natural_at, port_at, signed_at}

-- ---- ports

-- the port that starts so, with what these members say in its place
unfoldable pub port_over : PortStart → Members → PortStart
port_over p ms = record {
  state = unwrap_or (natural_at 255 (codes "state") ms) p.state;
  log_min_delay_req = unwrap_or (signed_at 128 (codes "log_min_delay_req") ms) p.log_min_delay_req;
  peer_delay = unwrap_or (integer_at (codes "peer_delay") ms) p.peer_delay;
  log_announce = unwrap_or (signed_at 128 (codes "log_announce") ms) p.log_announce;
  receipt_timeout = unwrap_or (natural_at 255 (codes "receipt_timeout") ms) p.receipt_timeout;
  log_sync = unwrap_or (signed_at 128 (codes "log_sync") ms) p.log_sync;
  delay_mechanism = unwrap_or (natural_at 255 (codes "delay_mechanism") ms) p.delay_mechanism;
  log_min_pdelay = unwrap_or (signed_at 128 (codes "log_min_pdelay") ms) p.log_min_pdelay;
}

-- the members of a port; those that are absent are as a port starts (this project's profile)
abbrev pub port_start : Members → PortStart
port_start ms = port_over default_port ms

-- ---- clocks

-- the clock that starts so, with what these members say in its place
unfoldable pub clock_over : ClockStart → Members → ClockStart
clock_over c ms = record {
  identity = c.identity;
  domain = c.domain;
  user_description = record { items = description_at (codes "user_description") ms };
  two_step = unwrap_or (flag_at (codes "two_step") ms) c.two_step;
  priority1 = unwrap_or (natural_at 255 (codes "priority1") ms) c.priority1;
  clock_class = unwrap_or (natural_at 255 (codes "clock_class") ms) c.clock_class;
  clock_accuracy = unwrap_or (natural_at 255 (codes "clock_accuracy") ms) c.clock_accuracy;
  variance = unwrap_or (natural_at 65535 (codes "variance") ms) c.variance;
  priority2 = unwrap_or (natural_at 255 (codes "priority2") ms) c.priority2;
  steps_removed = unwrap_or (natural_at 65535 (codes "steps_removed") ms) c.steps_removed;
  offset_from_master = unwrap_or (integer_at (codes "offset_from_master") ms) c.offset_from_master;
  mean_path_delay = unwrap_or (integer_at (codes "mean_path_delay") ms) c.mean_path_delay;
  parent_port = port_at (codes "parent_port") ms;
  parent_stats = unwrap_or (flag_at (codes "parent_stats") ms) c.parent_stats;
  observed_variance = unwrap_or (natural_at 65535 (codes "observed_variance") ms) c.observed_variance;
  observed_rate = unwrap_or (signed_at 2147483648 (codes "observed_rate") ms) c.observed_rate;
  grandmaster_priority1 = natural_at 255 (codes "grandmaster_priority1") ms;
  grandmaster_class = natural_at 255 (codes "grandmaster_class") ms;
  grandmaster_accuracy = natural_at 255 (codes "grandmaster_accuracy") ms;
  grandmaster_variance = natural_at 65535 (codes "grandmaster_variance") ms;
  grandmaster_priority2 = natural_at 255 (codes "grandmaster_priority2") ms;
  grandmaster = clock_at (codes "grandmaster") ms;
  utc_offset = unwrap_or (signed_at 32768 (codes "utc_offset") ms) c.utc_offset;
  leap61 = unwrap_or (flag_at (codes "leap61") ms) c.leap61;
  leap59 = unwrap_or (flag_at (codes "leap59") ms) c.leap59;
  utc_valid = unwrap_or (flag_at (codes "utc_valid") ms) c.utc_valid;
  ptp_timescale = unwrap_or (flag_at (codes "ptp_timescale") ms) c.ptp_timescale;
  time_traceable = unwrap_or (flag_at (codes "time_traceable") ms) c.time_traceable;
  frequency_traceable = unwrap_or (flag_at (codes "frequency_traceable") ms) c.frequency_traceable;
  time_source = unwrap_or (natural_at 255 (codes "time_source") ms) c.time_source;
}

-- the members of a clock; those that are absent are as a clock starts
abbrev pub clock_start : ClockIdentity → ℕ → Members → ClockStart
clock_start identity domain ms = clock_over (default_clock identity domain) ms
