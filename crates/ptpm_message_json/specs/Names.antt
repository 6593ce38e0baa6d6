-- The names of structures in JSON (this project's profile).
use Rattle.std.specs.Prelude.{ℕ, Bool, true, false, List, Option, Some, None, codes}
use Rattle.ptpm_data.specs.declared.members.Member.{Member as DataSetMember}
use Rattle.ptpm_data.specs.declared.members.Member.TheVariants as sets
use Rattle.ptpm_members.specs.declared.names.Member.{Member}
use Rattle.ptpm_members.specs.declared.names.Member.TheVariants as members

-- ---- a ClockQuality (5.3.7) is shown as one object

-- the name of the one whose first member this is
abbrev pub data_set_quality : DataSetMember → Option (List ℕ)
data_set_quality sets.ClockClass = Some (codes "clockQuality")
data_set_quality sets.GrandmasterClass = Some (codes "grandmasterClockQuality")
data_set_quality member = None

abbrev pub quality_name : Member → Option (List ℕ)
quality_name (members.DataSet member) = data_set_quality member
quality_name member = None

-- whether a member is one of a ClockQuality, but not its first
abbrev pub is_data_set_in_quality : DataSetMember → Bool
is_data_set_in_quality sets.ClockAccuracy = true
is_data_set_in_quality sets.Variance = true
is_data_set_in_quality sets.GrandmasterAccuracy = true
is_data_set_in_quality sets.GrandmasterVariance = true
is_data_set_in_quality member = false

abbrev pub is_in_quality : Member → Bool
is_in_quality (members.DataSet member) = is_data_set_in_quality member
is_in_quality member = false
