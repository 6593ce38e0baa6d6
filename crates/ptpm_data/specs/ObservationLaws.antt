-- The words of what an observation moves and keeps, in terms of the map of members (this project's profile).
use Rattle.std.specs.Prelude.{◌≡◌, ◌==◌, ℕ, ◌-◌, ⊤, Bool, true, false, if◌then◌else◌, List, length, slice_get, Option, Some, None, option_and_then}
use Rattle.ptpm_data.specs.declared.members.Member.{Member}
use Rattle.ptpm_data.specs.declared.members.Member.TheVariants as members
use Rattle.ptpm_data.specs.declared.port_state.PortState.{PortState}
use Rattle.ptpm_data.specs.declared.data_sets.ClockPrecedence.{ClockPrecedence}
use Rattle.ptpm_data.specs.declared.data_sets.PortDataSet.{PortDataSet}
use Rattle.ptpm_data.specs.declared.observation.ClockObservation.{ClockObservation}
use Rattle.ptpm_data.specs.declared.observation.PortObservation.{PortObservation}
use Rattle.ptpm_data.specs.declared.observation.ObservedGrandmaster.{ObservedGrandmaster}
use Rattle.ptpm_data.specs.declared.observation.ObservedGrandmaster.TheVariants.{Itself, Announced}
use Rattle.ptpm_data.specs.MemberMap.{MemberValue, Place, OfClock, OfPort, natural, integer, flag, identity, port_identity}
use Rattle.ptpm_data.specs.Members.{DataSetsValue, is_own_grandmaster, port_of}
use Rattle.ptpm_data.specs.Observation.{default_after, grandmaster_identity, grandmaster_parent, grandmaster_precedence, is_disabled}
use Rattle.ptpm_data.specs.PortState.{state_number}

-- ---- the value that is observed of a member; none if it is not observed

-- if no grandmaster is observed, its quality is observed with the clock's own, if it is the clock itself
abbrev pub following : Bool → Option ℕ → Option MemberValue
following own quality = if own then option_and_then natural quality else None

abbrev pub of_grandmaster : (ClockPrecedence → ℕ) → Option ℕ → ClockObservation → DataSetsValue → Option ObservedGrandmaster → Option MemberValue
of_grandmaster member quality o d None = following (is_own_grandmaster d) quality
of_grandmaster member quality o d (Some g) = natural (member (grandmaster_precedence g (default_after o d.default)))

abbrev pub observed_of_clock : Member → ClockObservation → DataSetsValue → Option MemberValue
observed_of_clock members.ClockClass o d = option_and_then natural o.clock_class
observed_of_clock members.ClockAccuracy o d = option_and_then natural o.clock_accuracy
observed_of_clock members.Variance o d = option_and_then natural o.variance
observed_of_clock members.StepsRemoved o d = option_and_then natural o.steps_removed
observed_of_clock members.OffsetFromMaster o d = option_and_then integer o.offset_from_master
observed_of_clock members.MeanPathDelay o d = option_and_then integer o.mean_path_delay
observed_of_clock members.ParentPort o d = option_and_then (λ g. port_identity (grandmaster_parent g d.default)) o.grandmaster
observed_of_clock members.ParentStats o d = option_and_then flag o.parent_stats
observed_of_clock members.ObservedVariance o d = option_and_then natural o.observed_variance
observed_of_clock members.ObservedRate o d = option_and_then integer o.observed_rate
observed_of_clock members.GrandmasterPriority1 o d = of_grandmaster (λ p. p.priority1) None o d o.grandmaster
observed_of_clock members.GrandmasterClass o d = of_grandmaster (λ p. p.class) o.clock_class o d o.grandmaster
observed_of_clock members.GrandmasterAccuracy o d = of_grandmaster (λ p. p.accuracy) o.clock_accuracy o d o.grandmaster
observed_of_clock members.GrandmasterVariance o d = of_grandmaster (λ p. p.variance) o.variance o d o.grandmaster
observed_of_clock members.GrandmasterPriority2 o d = of_grandmaster (λ p. p.priority2) None o d o.grandmaster
observed_of_clock members.Grandmaster o d = option_and_then (λ g. identity (grandmaster_identity g d.default)) o.grandmaster
observed_of_clock members.UtcOffset o d = option_and_then integer o.utc_offset
observed_of_clock members.Leap61 o d = option_and_then flag o.leap61
observed_of_clock members.Leap59 o d = option_and_then flag o.leap59
observed_of_clock members.UtcValid o d = option_and_then flag o.utc_valid
observed_of_clock members.PtpTimescale o d = option_and_then flag o.ptp_timescale
observed_of_clock members.TimeTraceable o d = option_and_then flag o.time_traceable
observed_of_clock members.FrequencyTraceable o d = option_and_then flag o.frequency_traceable
observed_of_clock members.TimeSource o d = option_and_then natural o.time_source
observed_of_clock _ o d = None

-- of a disabled port no state is taken
abbrev pub observed_state : Bool → Option PortState → Option MemberValue
observed_state true state = None
observed_state false state = option_and_then (λ s. natural (state_number s)) state

abbrev pub observed_of_port : Member → PortObservation → PortDataSet → Option MemberValue
observed_of_port members.State o p = observed_state (is_disabled p.state) o.state
observed_of_port members.PeerDelay o p = option_and_then integer o.peer_delay
observed_of_port _ o p = None

-- the place of a port among the observations
abbrev pub observation_of : ℕ → List PortObservation → Option PortObservation
observation_of port ports = if port == 0 then None else slice_get ports (port - 1)

abbrev pub observed_there : Member → Option PortObservation → Option PortDataSet → Option MemberValue
observed_there member (Some o) (Some p) = observed_of_port member o p
observed_there member _ _ = None

abbrev pub observed_value : Place → ClockObservation → List PortObservation → DataSetsValue → Option MemberValue
observed_value (OfClock member) o ports d = observed_of_clock member o d
observed_value (OfPort port member) o ports d = observed_there member (observation_of port ports) (port_of port d)

-- ---- what every observation has

abbrev pub IsSizedGrandmaster : Option ObservedGrandmaster → Type 0
IsSizedGrandmaster None = ⊤
IsSizedGrandmaster (Some Itself) = ⊤
IsSizedGrandmaster (Some (Announced a)) = (length a.identity.0 ≡ 8) × (length a.parent_port.clock.0 ≡ 8)

-- an announced grandmaster and its parent port have identities of eight octets
abbrev pub IsSizedObservation : ClockObservation → Type 0
IsSizedObservation o = IsSizedGrandmaster o.grandmaster
