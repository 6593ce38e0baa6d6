-- The names of the members, and their order (this project's profile).
use Rattle.std.specs.Prelude.{ℕ, ◌+◌, List, codes}
use Rattle.ptpm_data.specs.declared.members.Member.{Member}
use Rattle.ptpm_data.specs.declared.members.Member.TheVariants as members
use Rattle.ptpm_data.specs.PortSetting.{place, row}

abbrev pub member_name : Member → List ℕ
member_name members.Identity = codes "identity"
member_name members.Domain = codes "domain"
member_name members.UserDescription = codes "user_description"
member_name members.TwoStep = codes "two_step"
member_name members.Priority1 = codes "priority1"
member_name members.ClockClass = codes "clock_class"
member_name members.ClockAccuracy = codes "clock_accuracy"
member_name members.Variance = codes "variance"
member_name members.Priority2 = codes "priority2"
member_name members.StepsRemoved = codes "steps_removed"
member_name members.OffsetFromMaster = codes "offset_from_master"
member_name members.MeanPathDelay = codes "mean_path_delay"
member_name members.ParentPort = codes "parent_port"
member_name members.ParentStats = codes "parent_stats"
member_name members.ObservedVariance = codes "observed_variance"
member_name members.ObservedRate = codes "observed_rate"
member_name members.GrandmasterPriority1 = codes "grandmaster_priority1"
member_name members.GrandmasterClass = codes "grandmaster_class"
member_name members.GrandmasterAccuracy = codes "grandmaster_accuracy"
member_name members.GrandmasterVariance = codes "grandmaster_variance"
member_name members.GrandmasterPriority2 = codes "grandmaster_priority2"
member_name members.Grandmaster = codes "grandmaster"
member_name members.UtcOffset = codes "utc_offset"
member_name members.Leap61 = codes "leap61"
member_name members.Leap59 = codes "leap59"
member_name members.UtcValid = codes "utc_valid"
member_name members.PtpTimescale = codes "ptp_timescale"
member_name members.TimeTraceable = codes "time_traceable"
member_name members.FrequencyTraceable = codes "frequency_traceable"
member_name members.TimeSource = codes "time_source"
member_name members.State = codes "state"
member_name members.LogMinDelayReq = codes "log_min_delay_req"
member_name members.PeerDelay = codes "peer_delay"
member_name (members.Setting s) = (row s).name

-- the place of a member in the order in which a start judges them
abbrev pub member_place : Member → ℕ
member_place members.Identity = 0
member_place members.Domain = 1
member_place members.UserDescription = 2
member_place members.TwoStep = 3
member_place members.Priority1 = 4
member_place members.ClockClass = 5
member_place members.ClockAccuracy = 6
member_place members.Variance = 7
member_place members.Priority2 = 8
member_place members.StepsRemoved = 9
member_place members.OffsetFromMaster = 10
member_place members.MeanPathDelay = 11
member_place members.ParentPort = 12
member_place members.ParentStats = 13
member_place members.ObservedVariance = 14
member_place members.ObservedRate = 15
member_place members.GrandmasterPriority1 = 16
member_place members.GrandmasterClass = 17
member_place members.GrandmasterAccuracy = 18
member_place members.GrandmasterVariance = 19
member_place members.GrandmasterPriority2 = 20
member_place members.Grandmaster = 21
member_place members.UtcOffset = 22
member_place members.Leap61 = 23
member_place members.Leap59 = 24
member_place members.UtcValid = 25
member_place members.PtpTimescale = 26
member_place members.TimeTraceable = 27
member_place members.FrequencyTraceable = 28
member_place members.TimeSource = 29
member_place members.State = 30
member_place members.LogMinDelayReq = 31
member_place members.PeerDelay = 32
member_place (members.Setting s) = 33 + place s
