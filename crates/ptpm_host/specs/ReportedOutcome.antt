-- What an answer says to a host, and whether there is room for it.
use Rattle.std.specs.Prelude.{ℕ, nat_lt, List, [], ◌∷◌, length, Option}
use Rattle.ptpm_codec.specs.Ordered.{first_of}
use Rattle.ptpm_manager.specs.declared.report.Outcome.{Outcome}
use Rattle.ptpm_manager.specs.declared.report.Outcome.TheVariants as outcomes
use Rattle.ptpm_host.specs.declared.refusal.ReportRefusal.{ReportRefusal}
use Rattle.ptpm_host.specs.declared.refusal.ReportRefusal.TheVariants as reports
use Rattle.ptpm_host.specs.declared.reported_outcome.ReportedOutcome.{ReportedOutcome}
use Rattle.ptpm_host.specs.declared.reported_outcome.ReportedOutcome.TheVariants as reported

abbrev pub outcome_octets : Outcome → List ℕ
outcome_octets (outcomes.Value octets) = octets
outcome_octets outcomes.Done = []
outcome_octets (outcomes.Refused error) = []

abbrev pub reported_of : Outcome → ReportedOutcome
reported_of (outcomes.Value octets) = reported.Value (length octets)
reported_of outcomes.Done = reported.Done
reported_of (outcomes.Refused error) = reported.Refused error

-- how many octets of a dataField are given
abbrev pub reported_size : ReportedOutcome → ℕ
reported_size (reported.Value size) = size
reported_size reported.Done = 0
reported_size (reported.Refused error) = 0

-- the managementErrorId, and 0 if none is given
abbrev pub reported_error : ReportedOutcome → ℕ
reported_error (reported.Value size) = 0
reported_error reported.Done = 0
reported_error (reported.Refused error) = error

-- there is room for fewer octets than its dataField has
abbrev pub room_refusal : ℕ → Outcome → Option ReportRefusal
room_refusal room outcome = first_of ((nat_lt room (length (outcome_octets outcome)), reports.NoRoom) ∷ [])
