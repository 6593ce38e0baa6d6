-- What a host observes of its clock, and the data sets after it (members of IEEE 1588-2019, 8.2). Which of them a host may
-- observe, and when it is refused, is this project's profile.
use Rattle.std.specs.Prelude.{ℕ, nat_lt, Bool, true, false, not, ◌&&◌, ◌||◌, if◌then◌else◌, List, [], ◌∷◌, length, Option, Some, None, is_some, unwrap_or, ◌-◌, ◌==◌, slice_get}
use Rattle.ptpm_codec.specs.declared.identity.ClockIdentity.{ClockIdentity}
use Rattle.ptpm_codec.specs.declared.identity.PortIdentity.{PortIdentity}
use Rattle.ptpm_codec.specs.Ordered.{first_of}
use Rattle.ptpm_data.specs.declared.members.Member.TheVariants as members
use Rattle.ptpm_data.specs.declared.port_state.PortState.{PortState}
use Rattle.ptpm_data.specs.declared.port_state.PortState.TheVariants as states
use Rattle.ptpm_data.specs.declared.data_sets.ClockPrecedence.{ClockPrecedence}
use Rattle.ptpm_data.specs.declared.data_sets.DefaultDataSet.{DefaultDataSet}
use Rattle.ptpm_data.specs.declared.data_sets.CurrentDataSet.{CurrentDataSet}
use Rattle.ptpm_data.specs.declared.data_sets.ParentDataSet.{ParentDataSet}
use Rattle.ptpm_data.specs.declared.data_sets.TimePropertiesDataSet.{TimePropertiesDataSet}
use Rattle.ptpm_data.specs.declared.data_sets.PortDataSet.{PortDataSet}
use Rattle.ptpm_data.specs.declared.observation.ClockObservation.{ClockObservation}
use Rattle.ptpm_data.specs.declared.observation.PortObservation.{PortObservation}
use Rattle.ptpm_data.specs.declared.observation.ObservedGrandmaster.{ObservedGrandmaster}
use Rattle.ptpm_data.specs.declared.observation.ObservedGrandmaster.TheVariants.{Itself, Announced}
use Rattle.ptpm_data.specs.declared.observation.ObservationError.{ObservationError}
use Rattle.ptpm_data.specs.declared.observation.ObservationError.TheVariants.{NoPort, BadValue, GrandmasterDiffers}
use Rattle.ptpm_data.specs.declared.observation.PortsLeftDisabled.TheInside.{Inside}
use Rattle.ptpm_data.specs.Members.{DataSetsValue, is_grandmaster, is_same_precedence}
use Rattle.ptpm_data.specs.Ranges.{is_clock_accuracy}

-- ---- the clock: what is not observed stays

-- clockQuality (8.2.1.3.1)
abbrev pub quality_after : ClockObservation → ClockPrecedence → ClockPrecedence
quality_after o p = record p {
  class = unwrap_or o.clock_class p.class;
  accuracy = unwrap_or o.clock_accuracy p.accuracy;
  variance = unwrap_or o.variance p.variance;
}

abbrev pub default_after : ClockObservation → DefaultDataSet → DefaultDataSet
default_after o d = record d { precedence = quality_after o d.precedence }

-- currentDS (8.2.2)
abbrev pub current_after : ClockObservation → CurrentDataSet → CurrentDataSet
current_after o c = record {
  steps_removed = unwrap_or o.steps_removed c.steps_removed;
  offset_from_master = unwrap_or o.offset_from_master c.offset_from_master;
  mean_path_delay = unwrap_or o.mean_path_delay c.mean_path_delay;
}

-- timePropertiesDS (8.2.4)
abbrev pub time_after : ClockObservation → TimePropertiesDataSet → TimePropertiesDataSet
time_after o t = record {
  utc_offset = unwrap_or o.utc_offset t.utc_offset;
  leap61 = unwrap_or o.leap61 t.leap61;
  leap59 = unwrap_or o.leap59 t.leap59;
  utc_valid = unwrap_or o.utc_valid t.utc_valid;
  ptp_timescale = unwrap_or o.ptp_timescale t.ptp_timescale;
  time_traceable = unwrap_or o.time_traceable t.time_traceable;
  frequency_traceable = unwrap_or o.frequency_traceable t.frequency_traceable;
  time_source = unwrap_or o.time_source t.time_source;
}

-- ---- the grandmaster, which is observed whole: its identity, its priorities and quality, and the parent port (8.2.3)

abbrev pub grandmaster_identity : ObservedGrandmaster → DefaultDataSet → ClockIdentity
grandmaster_identity Itself default = default.identity
grandmaster_identity (Announced a) default = a.identity

-- of the clock itself as its grandmaster, the clock's own (9.3.5, table 30)
abbrev pub grandmaster_precedence : ObservedGrandmaster → DefaultDataSet → ClockPrecedence
grandmaster_precedence Itself default = default.precedence
grandmaster_precedence (Announced a) default = a.precedence

-- of the clock itself as its grandmaster, its port 0 (9.3.5, table 30)
abbrev pub grandmaster_parent : ObservedGrandmaster → DefaultDataSet → PortIdentity
grandmaster_parent Itself default = record { clock = default.identity; port = 0 }
grandmaster_parent (Announced a) default = a.parent_port

-- If no grandmaster is observed, the quality of one that is the clock itself follows the clock's own (9.3.5, table 30).
abbrev pub grandmaster_follows : Bool → ClockObservation → ParentDataSet → ParentDataSet
grandmaster_follows false o p = p
grandmaster_follows true o p = record p { precedence = quality_after o p.precedence }

-- by the clock's defaultDS before and after
abbrev pub grandmaster_after : Option ObservedGrandmaster → ClockObservation → DefaultDataSet → ParentDataSet → ParentDataSet
grandmaster_after None o default p = grandmaster_follows (is_grandmaster default p) o p
grandmaster_after (Some g) o default p = record p {
  parent_port = grandmaster_parent g (default_after o default);
  grandmaster = grandmaster_identity g (default_after o default);
  precedence = grandmaster_precedence g (default_after o default);
}

-- what the clock computed of its parent (8.2.3.3 to 8.2.3.5)
abbrev pub statistics_after : ClockObservation → ParentDataSet → ParentDataSet
statistics_after o p = record p {
  parent_stats = unwrap_or o.parent_stats p.parent_stats;
  observed_variance = unwrap_or o.observed_variance p.observed_variance;
  observed_rate = unwrap_or o.observed_rate p.observed_rate;
}

abbrev pub parent_after : ClockObservation → DefaultDataSet → ParentDataSet → ParentDataSet
parent_after o default p = statistics_after o (grandmaster_after o.grandmaster o default p)

-- ---- ports: the first place is port 1, and ports past the last place stay

abbrev pub is_disabled : PortState → Bool
is_disabled states.Disabled = true
is_disabled _ = false

-- DISABLED is entered and left only by COMMANDs: a disabled port's state stays
abbrev pub state_after : Bool → Option PortState → PortState → PortState
state_after true observed state = state
state_after false observed state = unwrap_or observed state

abbrev pub port_after : PortObservation → PortDataSet → PortDataSet
port_after o p = record p {
  state = state_after (is_disabled p.state) o.state p.state;
  peer_delay = unwrap_or o.peer_delay p.peer_delay;
}

unfoldable pub ports_after : List PortObservation → List PortDataSet → List PortDataSet
ports_after [] ports = ports
ports_after (o ∷ os) [] = []
ports_after (o ∷ os) (p ∷ ports) = port_after o p ∷ ports_after os ports

-- a state was observed at a disabled port, and so left it
abbrev pub is_left_disabled : PortObservation → PortDataSet → Bool
is_left_disabled o p = is_some o.state && is_disabled p.state

-- the same of each place
unfoldable pub left_disabled : List PortObservation → List PortDataSet → List Bool
left_disabled [] ports = []
left_disabled (o ∷ os) [] = []
left_disabled (o ∷ os) (p ∷ ports) = is_left_disabled o p ∷ left_disabled os ports

-- what `observe` answers
abbrev pub ports_left : Inside → List Bool
ports_left inside = inside.by_place.items

-- whether that port was left; false of one that has no place
abbrev pub is_some_true : Option Bool → Bool
is_some_true None = false
is_some_true (Some b) = b

abbrev pub is_left : ℕ → List Bool → Bool
is_left port left = if port == 0 then false else is_some_true (slice_get left (port - 1))

-- ---- refusals, judged on the data sets as they would be

abbrev pub is_disabled_state : Option PortState → Bool
is_disabled_state None = false
is_disabled_state (Some s) = is_disabled s

-- state DISABLED is observed at an enabled port
abbrev pub disables : PortObservation → PortDataSet → Bool
disables o p = is_disabled_state o.state && not (is_disabled p.state)

unfoldable pub disables_one : List PortObservation → List PortDataSet → Bool
disables_one [] ports = false
disables_one (o ∷ os) [] = false
disables_one (o ∷ os) (p ∷ ports) = disables o p || disables_one os ports

-- a clock that would be its own grandmaster, whose priority or quality would not be its own
abbrev pub grandmaster_differs : DefaultDataSet → ParentDataSet → Bool
grandmaster_differs default parent = is_grandmaster default parent && not (is_same_precedence parent.precedence default.precedence)

-- A port that is not there, then the members in the order of a start; the answer is the first whose test holds. The members
-- that are not here may have every value of their types.
unfoldable pub observation_refusal : ClockObservation → List PortObservation → DataSetsValue → Option ObservationError
observation_refusal o ports d = first_of (
    (nat_lt (length d.ports) (length ports), NoPort)
    ∷ (not (is_clock_accuracy (default_after o d.default).precedence.accuracy), BadValue members.ClockAccuracy)
    ∷ ((time_after o d.time).leap61 && (time_after o d.time).leap59, BadValue members.Leap59)
    ∷ (disables_one ports d.ports, BadValue members.State)
    ∷ (grandmaster_differs (default_after o d.default) (parent_after o d.default d.parent), GrandmasterDiffers)
    ∷ [])

-- ---- the data sets after an observation; a refused one changes nothing

abbrev pub accepted_observation : ClockObservation → List PortObservation → DataSetsValue → DataSetsValue
accepted_observation o ports d = record d {
  default = default_after o d.default;
  current = current_after o d.current;
  parent = parent_after o d.default d.parent;
  time = time_after o d.time;
  ports = ports_after ports d.ports;
}

abbrev pub unless_not_observed : Option ObservationError → DataSetsValue → DataSetsValue → DataSetsValue
unless_not_observed None after d = after
unless_not_observed (Some error) after d = d

unfoldable pub observed : ClockObservation → List PortObservation → DataSetsValue → DataSetsValue
observed o ports d = unless_not_observed (observation_refusal o ports d) (accepted_observation o ports d) d
