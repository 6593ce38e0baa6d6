-- Which members have another value in one data sets value than in another (this project's profile).
use Rattle.std.specs.List.{range_with_len}
use Rattle.std.specs.Ordering.{int_eq}
use Rattle.std.specs.Prelude.{ℕ, ◌+◌, ◌*◌, ◌==◌, ◌&&◌, Bool, true, false, not, if◌then◌else◌, List, [], ◌∷◌, map, Option, Some, None, bytes_eq, option_and_then, replicate}
use Rattle.ptpm_data.specs.declared.changed.ChangedMembers.{ChangedMembers}
use Rattle.ptpm_data.specs.declared.changed.ClockMembers.{ClockMembers}
use Rattle.ptpm_data.specs.declared.changed.PortMembers.{PortMembers}
use Rattle.ptpm_data.specs.declared.members.Member.{Member}
use Rattle.ptpm_data.specs.declared.members.Member.TheVariants as members
use Rattle.ptpm_data.specs.declared.data_sets.PortDataSet.{PortDataSet}
use Rattle.ptpm_data.specs.declared.ports.TheConstants.{PORTS}
use Rattle.ptpm_data.specs.MemberMap.{MemberValue, Number, Octets, PortOf, clock_member, port_member}
use Rattle.ptpm_data.specs.Members.{DataSetsValue, port_of}
use Rattle.ptpm_data.specs.PortSetting.{port_settings}

-- ---- two values

abbrev pub is_same : MemberValue → MemberValue → Bool
is_same (Number a) (Number b) = int_eq a b
is_same (Octets a) (Octets b) = bytes_eq a b
is_same (PortOf a m) (PortOf b n) = bytes_eq a b && m == n
is_same _ _ = false

-- a member that only one of the two has differs
abbrev pub differ : Option MemberValue → Option MemberValue → Bool
differ None None = false
differ (Some a) (Some b) = not (is_same a b)
differ _ _ = true

-- ---- the members of a clock, and those of a port, in the order in which a start judges them

abbrev pub clock_members : List Member
clock_members =
    members.Identity ∷ members.Domain ∷ members.UserDescription ∷ members.TwoStep ∷ members.Priority1 ∷ members.ClockClass
    ∷ members.ClockAccuracy ∷ members.Variance ∷ members.Priority2 ∷ members.StepsRemoved ∷ members.OffsetFromMaster
    ∷ members.MeanPathDelay ∷ members.ParentPort ∷ members.ParentStats ∷ members.ObservedVariance ∷ members.ObservedRate
    ∷ members.GrandmasterPriority1 ∷ members.GrandmasterClass ∷ members.GrandmasterAccuracy ∷ members.GrandmasterVariance
    ∷ members.GrandmasterPriority2 ∷ members.Grandmaster ∷ members.UtcOffset ∷ members.Leap61 ∷ members.Leap59
    ∷ members.UtcValid ∷ members.PtpTimescale ∷ members.TimeTraceable ∷ members.FrequencyTraceable ∷ members.TimeSource ∷ []

abbrev pub port_members : List Member
port_members =
    members.State ∷ members.LogMinDelayReq ∷ members.PeerDelay ∷ map (λ s. members.Setting s) port_settings

-- ---- which of them differ: of each a binary digit

-- the number of these digits, the lowest first
unfoldable pub number_of : List Bool → ℕ
number_of [] = 0
number_of (b ∷ bs) = (if b then 1 else 0) + 2 * number_of bs

abbrev pub clock_changed : DataSetsValue → DataSetsValue → ClockMembers
clock_changed before after =
    record { 0 = number_of (map (λ m. differ (clock_member m before) (clock_member m after)) clock_members) }

abbrev pub member_of : Member → Option PortDataSet → Option MemberValue
member_of m p = option_and_then (port_member m) p

abbrev pub members_changed : Option PortDataSet → Option PortDataSet → PortMembers
members_changed before after =
    record { 0 = number_of (map (λ m. differ (member_of m before) (member_of m after)) port_members) }

abbrev pub port_changed : DataSetsValue → DataSetsValue → ℕ → PortMembers
port_changed before after port = members_changed (port_of port before) (port_of port after)

-- of the clock, and of port 1, port 2 and so on
abbrev pub changed : DataSetsValue → DataSetsValue → ChangedMembers
changed before after = record {
  clock = clock_changed before after;
  ports = map (port_changed before after) (range_with_len 1 PORTS);
}

-- nothing differs
abbrev pub no_members : ChangedMembers
no_members = record { clock = record { 0 = 0 }; ports = replicate PORTS (record { 0 = 0 }) }
