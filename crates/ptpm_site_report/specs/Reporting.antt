-- What came of a site, and the status with which the program ends.
use Rattle.std.specs.Prelude.{◌≡◌, ℕ, Bool, true, false, ◌&&◌, if◌then◌else◌, List, [], ◌∷◌, Option, Some, None, MatchOption, not, filter}
use Rattle.std.specs.List.{items_where_true, list_any}
use denote.Enum.Bare.{sameb}
use Rattle.ptpm_causes.specs.contracts.kind.Kind.{the_type}
use Rattle.ptpm_causes.specs.declared.cause.Cause.{Cause}
use Rattle.ptpm_causes.specs.declared.kind.Kind.{Kind}
use Rattle.ptpm_causes.specs.declared.kind.Kind.TheVariants as kinds
use Rattle.ptpm_causes.specs.declared.kind.Severity.{Severity}
use Rattle.ptpm_causes.specs.declared.kind.Severity.TheVariants as severities
use Rattle.ptpm_causes.specs.Kinds.{kind_of}
use Rattle.ptpm_site.specs.declared.judging.finding.Finding.{Finding}
use Rattle.ptpm_site.specs.declared.reading.source.Source.{Source}
use Rattle.ptpm_site_report.specs.declared.ignored.Ignored.{Ignored}
use Rattle.ptpm_site_report.specs.declared.monitoring.nagios.Standing.{Standing}
use Rattle.ptpm_site_report.specs.declared.monitoring.nagios.Standing.TheVariants as standings
use Rattle.ptpm_site_report.specs.declared.finding.remarks.Remark.{Remark}
use Rattle.ptpm_site_report.specs.declared.reporting.Came.{Came}
use Rattle.ptpm_site_report.specs.declared.reporting.Conclusion.{Conclusion}
use Rattle.ptpm_site_report.specs.declared.reporting.Conclusion.TheVariants as outcomes
use Rattle.ptpm_site_report.specs.declared.reporting.Viewing.{Viewing}

-- by the clocks that answered, and what is found
abbrev pub outcome : List Source → List Finding → Conclusion
outcome [] found = outcomes.NoClock
outcome (s ∷ ss) [] = outcomes.Sound
outcome (s ∷ ss) (f ∷ fs) = outcomes.Findings

abbrev pub status : Conclusion → ℕ
status outcomes.Sound = 0
status outcomes.Findings = 1
status outcomes.NoClock = 3

-- of a form whose numbers have the findings
abbrev pub status_of_numbers : Conclusion → ℕ
status_of_numbers outcomes.NoClock = 3
status_of_numbers _ = 0

-- ---- the findings that are shown

-- --ignore has its name
abbrev pub is_ignored : Ignored → Finding → Bool
is_ignored ignored f = list_any (λ kind. sameb the_type kind (kind_of f.what)) ignored.kinds.items

abbrev pub wanted : Ignored → List Finding → List Finding
wanted ignored found = filter (λ f. not (is_ignored ignored f)) found

-- all that are wanted, or beside a look before some of them
abbrev pub IsShown : Viewing → List Finding → List Finding → Type 0
IsShown viewing judged shown =
    MatchOption viewing.before (shown ≡ wanted viewing.ignored.now judged)
    (λ before. (stays : List Bool) × (shown ≡ items_where_true stays (wanted viewing.ignored.now judged)))

-- ---- how a plugin says it

abbrev pub is_silent : Kind → Bool
is_silent kinds.NotTaken = true
is_silent kinds.Mute = true
is_silent kinds.OwnHost = true
is_silent _ = false

-- by that from which it follows
abbrev pub counts : Option Cause → Bool
counts None = true
counts (Some cause) = not (is_silent cause.kind)

abbrev pub is_critical : Severity → Bool
is_critical severities.Warning = false
is_critical severities.Critical = true

-- the worst that counts
abbrev pub worst : List Remark → Option Severity
worst found =
    if list_any (λ r. counts r.cause && is_critical r.severity) found then Some severities.Critical
    else (if list_any (λ r. counts r.cause) found then Some severities.Warning else None)

abbrev pub standing_by : Option Severity → Standing
standing_by None = standings.Sound
standing_by (Some severities.Warning) = standings.Warning
standing_by (Some severities.Critical) = standings.Critical

abbrev pub standing : List Source → List Remark → Standing
standing [] found = standings.Unknown
standing (s ∷ ss) found = standing_by (worst found)

abbrev pub plugin_status : Standing → ℕ
plugin_status standings.Sound = 0
plugin_status standings.Warning = 1
plugin_status standings.Critical = 2
plugin_status standings.Unknown = 3

-- as a form says it
abbrev pub concluded : Standing → Conclusion
concluded standings.Sound = outcomes.Sound
concluded standings.Warning = outcomes.Findings
concluded standings.Critical = outcomes.Findings
concluded standings.Unknown = outcomes.NoClock

-- both are those of these clocks and findings
abbrev pub AreConcluded : List Source → List Finding → Came → Type 0
AreConcluded sources found came = (came.conclusion ≡ outcome sources found) × (concluded came.standing ≡ outcome sources found)
