-- The names of findings.
use Rattle.ptpm_site.specs.declared.judging.finding.What.{What}
use Rattle.ptpm_site.specs.declared.judging.finding.What.TheVariants as what
use Rattle.ptpm_site.specs.declared.judging.leading.Degradation.{Degradation}
use Rattle.ptpm_site.specs.declared.judging.leading.Degradation.TheVariants as degradation
use Rattle.ptpm_site.specs.declared.judging.unseen.Absence.{Absence}
use Rattle.ptpm_site.specs.declared.judging.unseen.Absence.TheVariants as absence
use Rattle.ptpm_causes.specs.declared.kind.Kind.{Kind}
use Rattle.ptpm_causes.specs.declared.kind.Kind.TheVariants as kinds

abbrev pub absence_kind : Absence → Kind
absence_kind absence.OwnHost = kinds.OwnHost
absence_kind (absence.Mute message) = kinds.Mute

abbrev pub degradation_kind : Degradation → Kind
degradation_kind degradation.Holdover = kinds.Holdover
degradation_kind degradation.Degraded = kinds.Degraded
degradation_kind degradation.FreeRunning = kinds.FreeRunning

abbrev pub kind_of : What → Kind
kind_of (what.Absent x) = kinds.Absent
kind_of what.Unexpected = kinds.Unexpected
kind_of (what.NotAsExpected x) = kinds.NotAsExpected
kind_of (what.OtherLeaders x) = kinds.NotAsExpected
kind_of what.Gone = kinds.Gone
kind_of (what.NotTaken x) = kinds.NotTaken
kind_of (what.Unseen why) = absence_kind why
kind_of (what.NotAsked x) = kinds.NotAsked
kind_of what.TwoGrandmasters = kinds.TwoGrandmasters
kind_of (what.NoMaster x) = kinds.NoMaster
kind_of (what.GrandmasterNotSeen x) = kinds.GrandmasterNotSeen
kind_of (what.ParentNotSeen x) = kinds.ParentNotSeen
kind_of (what.ParentNotMaster port why) = kinds.ParentNotMaster
kind_of (what.Steps x) = kinds.Steps
kind_of (what.GrandmasterDiffers x) = kinds.GrandmasterDiffers
kind_of (what.Loop x) = kinds.Loop
kind_of (what.PortState port stay) = kinds.PortState
kind_of (what.NotLocked port unlocked) = kinds.NotLocked
kind_of (what.OffsetFrozen x) = kinds.OffsetFrozen
kind_of (what.GrandmasterTime x) = kinds.GrandmasterTime
kind_of (what.OffByUtc x) = kinds.OffByUtc
kind_of (what.Offset x) = kinds.Offset
kind_of (what.Delay x) = kinds.Delay
kind_of (what.LinkDelay port delay) = kinds.Delay
kind_of (what.Utc x) = kinds.Utc
kind_of (what.Intervals port seldom) = kinds.Intervals
kind_of (what.DelayMechanism port other) = kinds.DelayMechanism
kind_of (what.GrandmasterDoubtful x) = kinds.GrandmasterDoubtful
kind_of (what.Degraded degraded) = degradation_kind degraded.degradation
kind_of (what.NotTraceable x) = kinds.NotTraceable
kind_of (what.UtcInvalid x) = kinds.UtcInvalid
kind_of (what.UtcOffset x) = kinds.UtcOffset
kind_of (what.LeapFalse x) = kinds.LeapFalse
kind_of (what.Leap x) = kinds.Leap
kind_of (what.BetterClock x) = kinds.BetterClock
kind_of (what.Profile x) = kinds.Profile
kind_of (what.Incomplete x) = kinds.Incomplete
kind_of (what.OutOfReach x) = kinds.OutOfReach
kind_of (what.GrandmasterChanged x) = kinds.GrandmasterChanged
kind_of (what.Changed port change) = kinds.Changed
kind_of (what.IdentityTwice x) = kinds.IdentityTwice
