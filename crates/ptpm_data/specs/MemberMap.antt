-- What a data sets value means, member by member (IEEE 1588-2019, clause 8). It is a finite map, from the members of the
-- clock and of each of its ports to their values.
use Rattle.std.specs.Prelude.{ℕ, ℤ, pos, Bool, if◌then◌else◌, List, ◌++◌, Option, Some, None, option_and_then}
use Rattle.byteorder.specs.Endian.{big_bytes}
use Rattle.ptpm_codec.specs.declared.identity.ClockIdentity.{ClockIdentity}
use Rattle.ptpm_codec.specs.declared.identity.PortIdentity.{PortIdentity}
use Rattle.ptpm_data.specs.declared.members.Member.{Member}
use Rattle.ptpm_data.specs.declared.members.Member.TheVariants as members
use Rattle.ptpm_data.specs.declared.data_sets.PortDataSet.{PortDataSet}
use Rattle.ptpm_data.specs.Members.{DataSetsValue, port_of}
use Rattle.ptpm_data.specs.PortState.{state_number}

-- a whole number, octets (of an identity or a text), or a clock's identity with a port number; a flag is 0 or 1
pub data MemberValue : Type 0 where
  Number : (number : ℤ) → MemberValue
  Octets : (octets : List ℕ) → MemberValue
  PortOf : (clock : List ℕ) → (port : ℕ) → MemberValue

-- The same as only a whole number or a list of octets. A portIdentity has ten octets: those of its clock and then those
-- of its port's number (5.3.5).
pub data PlainValue : Type 0 where
  WholeNumber : (number : ℤ) → PlainValue
  OctetList : (octets : List ℕ) → PlainValue

abbrev pub plain : MemberValue → PlainValue
plain (Number n) = WholeNumber n
plain (Octets octets) = OctetList octets
plain (PortOf clock port) = OctetList (clock ++ big_bytes 2 port)

-- the place of a member: at the clock, or at a port
pub data Place : Type 0 where
  OfClock : (member : Member) → Place
  OfPort : (port : ℕ) → (member : Member) → Place

abbrev pub natural : ℕ → Option MemberValue
natural n = Some (Number (pos n))

abbrev pub integer : ℤ → Option MemberValue
integer n = Some (Number n)

abbrev pub flag : Bool → Option MemberValue
flag b = natural (if b then 1 else 0)

abbrev pub identity : ClockIdentity → Option MemberValue
identity c = Some (Octets c.0)

abbrev pub port_identity : PortIdentity → Option MemberValue
port_identity p = Some (PortOf p.clock.0 p.port)

abbrev pub clock_member : Member → DataSetsValue → Option MemberValue
clock_member members.Identity d = identity d.default.identity
clock_member members.Domain d = natural d.default.domain
clock_member members.UserDescription d = Some (Octets d.description)
clock_member members.TwoStep d = flag d.default.two_step
clock_member members.Priority1 d = natural d.default.precedence.priority1
clock_member members.ClockClass d = natural d.default.precedence.class
clock_member members.ClockAccuracy d = natural d.default.precedence.accuracy
clock_member members.Variance d = natural d.default.precedence.variance
clock_member members.Priority2 d = natural d.default.precedence.priority2
clock_member members.StepsRemoved d = natural d.current.steps_removed
clock_member members.OffsetFromMaster d = integer d.current.offset_from_master
clock_member members.MeanPathDelay d = integer d.current.mean_path_delay
clock_member members.ParentPort d = port_identity d.parent.parent_port
clock_member members.ParentStats d = flag d.parent.parent_stats
clock_member members.ObservedVariance d = natural d.parent.observed_variance
clock_member members.ObservedRate d = integer d.parent.observed_rate
clock_member members.GrandmasterPriority1 d = natural d.parent.precedence.priority1
clock_member members.GrandmasterClass d = natural d.parent.precedence.class
clock_member members.GrandmasterAccuracy d = natural d.parent.precedence.accuracy
clock_member members.GrandmasterVariance d = natural d.parent.precedence.variance
clock_member members.GrandmasterPriority2 d = natural d.parent.precedence.priority2
clock_member members.Grandmaster d = identity d.parent.grandmaster
clock_member members.UtcOffset d = integer d.time.utc_offset
clock_member members.Leap61 d = flag d.time.leap61
clock_member members.Leap59 d = flag d.time.leap59
clock_member members.UtcValid d = flag d.time.utc_valid
clock_member members.PtpTimescale d = flag d.time.ptp_timescale
clock_member members.TimeTraceable d = flag d.time.time_traceable
clock_member members.FrequencyTraceable d = flag d.time.frequency_traceable
clock_member members.TimeSource d = natural d.time.time_source
clock_member _ d = None

abbrev pub port_member : Member → PortDataSet → Option MemberValue
port_member members.State p = natural (state_number p.state)
port_member members.LogMinDelayReq p = integer p.log_min_delay_req
port_member members.PeerDelay p = integer p.peer_delay
port_member (members.Setting s) p = integer (p.settings s)
port_member _ p = None

-- none if the clock has no such port, or the member is of the other kind
abbrev pub value_of : Place → DataSetsValue → Option MemberValue
value_of (OfClock member) d = clock_member member d
value_of (OfPort port member) d = option_and_then (port_member member) (port_of port d)
