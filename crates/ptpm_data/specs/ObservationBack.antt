-- The observation that brings a clock's data sets back to what they were, whatever was observed since.
use Rattle.std.specs.Prelude.{List, [], ◌∷◌, map, Some}
use Rattle.ptpm_data.specs.declared.data_sets.PortDataSet.{PortDataSet}
use Rattle.ptpm_data.specs.declared.observation.ClockObservation.{ClockObservation}
use Rattle.ptpm_data.specs.declared.observation.ObservedGrandmaster.TheVariants.{Announced}
use Rattle.ptpm_data.specs.declared.observation.PortObservation.{PortObservation}
use Rattle.ptpm_data.specs.Members.{DataSetsValue}
use Rattle.ptpm_data.specs.Observation.{observed}

-- every member that a host may observe, as it is
abbrev pub clock_observation : DataSetsValue → ClockObservation
clock_observation d = record {
  clock_class = Some d.default.precedence.class;
  clock_accuracy = Some d.default.precedence.accuracy;
  variance = Some d.default.precedence.variance;
  steps_removed = Some d.current.steps_removed;
  offset_from_master = Some d.current.offset_from_master;
  mean_path_delay = Some d.current.mean_path_delay;
  parent_stats = Some d.parent.parent_stats;
  observed_variance = Some d.parent.observed_variance;
  observed_rate = Some d.parent.observed_rate;
  grandmaster = Some (Announced (record {
    parent_port = d.parent.parent_port;
    identity = d.parent.grandmaster;
    precedence = d.parent.precedence;
  }));
  utc_offset = Some d.time.utc_offset;
  leap61 = Some d.time.leap61;
  leap59 = Some d.time.leap59;
  utc_valid = Some d.time.utc_valid;
  ptp_timescale = Some d.time.ptp_timescale;
  time_traceable = Some d.time.time_traceable;
  frequency_traceable = Some d.time.frequency_traceable;
  time_source = Some d.time.time_source;
}

abbrev pub port_observation : PortDataSet → PortObservation
port_observation p = record { state = Some p.state; peer_delay = Some p.peer_delay }

abbrev pub observed_again : DataSetsValue → DataSetsValue → DataSetsValue
observed_again d e = observed (clock_observation d) (map port_observation d.ports) e

-- what was observed of the clock and of its ports
pub record Observation : Type 0 where
  pub clock : ClockObservation
  pub ports : List PortObservation

-- one observation after the other; a refused one changes nothing
abbrev pub observed_each : List Observation → DataSetsValue → DataSetsValue
observed_each [] d = d
observed_each (o ∷ os) d = observed_each os (observed o.clock o.ports d)
