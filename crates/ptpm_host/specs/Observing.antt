-- What a host lays out of an observation, and a clock after it.
use Rattle.std.specs.Prelude.{◌≡◌, ◌==◌, ◌+◌, ◌*◌, zero, suc, ℕ, Bool, if◌then◌else◌, List, map, Option, Some, unwrap_or}
use Rattle.ptpm_data.specs.declared.observation.AnnouncedGrandmaster.{AnnouncedGrandmaster}
use Rattle.ptpm_data.specs.declared.observation.ClockObservation.{ClockObservation}
use Rattle.ptpm_data.specs.declared.observation.ObservationError.{ObservationError}
use Rattle.ptpm_data.specs.declared.observation.ObservedGrandmaster.{ObservedGrandmaster}
use Rattle.ptpm_data.specs.declared.observation.ObservedGrandmaster.TheVariants.{Itself, Announced}
use Rattle.ptpm_data.specs.declared.observation.PortObservation.{PortObservation}
use Rattle.ptpm_data.specs.declared.port_state.PortState.TheVariants.{Disabled}
use Rattle.std.specs.Int.{from_bool}
use Rattle.ptpm_data.specs.declared.ports.TheConstants.{PORTS}
use Rattle.ptpm_data.specs.Observation.{is_left, left_disabled, observation_refusal, observed}
use Rattle.ptpm_data.specs.PortState.{state_of}
use Rattle.ptpm_host.specs.declared.clock.HostedClock.{HostedClock}
use Rattle.ptpm_host.specs.declared.observing.ObservedClock.{ObservedClock}
use Rattle.ptpm_host.specs.declared.observing.ObservedPort.{ObservedPort}
use Rattle.ptpm_host.specs.Settings.{given, is_set}

abbrev pub announced : ObservedClock → AnnouncedGrandmaster
announced s = record {
  parent_port = record { clock = record { 0 = s.parent_port_clock }; port = s.parent_port_number };
  identity = record { 0 = s.grandmaster };
  precedence = record {
    priority1 = s.grandmaster_priority1;
    class = s.grandmaster_class;
    accuracy = s.grandmaster_accuracy;
    variance = s.grandmaster_variance;
    priority2 = s.grandmaster_priority2;
  };
}

-- the clock itself, if that flag is set; else the announced one, if it is given
abbrev pub grandmaster_of : ObservedClock → Option ObservedGrandmaster
grandmaster_of s = if s.is_grandmaster == 0 then given s.has_grandmaster (Announced (announced s)) else Some Itself

abbrev pub clock_observation : ObservedClock → ClockObservation
clock_observation s = record {
  clock_class = given s.has_clock_class s.clock_class;
  clock_accuracy = given s.has_clock_accuracy s.clock_accuracy;
  variance = given s.has_variance s.variance;
  steps_removed = given s.has_steps_removed s.steps_removed;
  offset_from_master = given s.has_offset_from_master s.offset_from_master;
  mean_path_delay = given s.has_mean_path_delay s.mean_path_delay;
  parent_stats = given s.has_parent_stats (is_set s.parent_stats);
  observed_variance = given s.has_observed_variance s.observed_variance;
  observed_rate = given s.has_observed_rate s.observed_rate;
  grandmaster = grandmaster_of s;
  utc_offset = given s.has_utc_offset s.utc_offset;
  leap61 = given s.has_leap61 (is_set s.leap61);
  leap59 = given s.has_leap59 (is_set s.leap59);
  utc_valid = given s.has_utc_valid (is_set s.utc_valid);
  ptp_timescale = given s.has_ptp_timescale (is_set s.ptp_timescale);
  time_traceable = given s.has_time_traceable (is_set s.time_traceable);
  frequency_traceable = given s.has_frequency_traceable (is_set s.frequency_traceable);
  time_source = given s.has_time_source s.time_source;
}

-- A number of no state counts as DISABLED: refused at an enabled port, and left at a disabled one.
abbrev pub port_observation : ObservedPort → PortObservation
port_observation s = record {
  state = given s.has_state (unwrap_or (state_of s.state) Disabled);
  peer_delay = given s.has_peer_delay s.peer_delay;
}

abbrev pub port_observations : List ObservedPort → List PortObservation
port_observations ports = map port_observation ports

-- ---- a clock that its host observes

abbrev pub observe_refusal : ObservedClock → List ObservedPort → HostedClock → Option ObservationError
observe_refusal o ports c = observation_refusal (clock_observation o) (port_observations ports) c.agent.sets

-- the disabled ports at which a state was observed
abbrev pub ports_left : List ObservedPort → HostedClock → List Bool
ports_left ports c = left_disabled (port_observations ports) c.agent.sets.ports

-- The data sets are those after the observation; what is kept of each manager is as it was.
pub record IsObserved (o : ObservedClock) (ports : List ObservedPort) (before after : HostedClock) : Type 0 where
  pub sets_are : after.agent.sets ≡ observed (clock_observation o) (port_observations ports) before.agent.sets
  pub table_is : after.agent.table ≡ before.agent.table

-- ---- the ports that stayed disabled as a number: 1 for port 1, 2 for port 2, 4 for port 3, and so on, summed up

-- this number of ports from one on, with 1 for the first
abbrev pub left_from : ℕ → ℕ → List Bool → ℕ
left_from port zero left = 0
left_from port (suc n) left = from_bool (is_left port left) + 2 * left_from (port + 1) n left

unfoldable pub left_number : List Bool → ℕ
left_number left = left_from 1 PORTS left
