-- What comes of a plan.
use Rattle.std.specs.Prelude.{ℕ, ◌+◌, ◌==◌, nat_lt, Bool, true, false, not, ◌||◌, if◌then◌else◌, count_by, List, [], ◌∷◌, Option, None, Some}
use Rattle.std.specs.List.{list_any}
use Rattle.ptpm_plan.specs.Asking.{is_unclear, lacks_ports}
use Rattle.ptpm_plan.specs.declared.answer.Answer.{Answer}
use Rattle.ptpm_plan.specs.declared.asking.Unnamed.{Unnamed}
use Rattle.ptpm_plan.specs.declared.change.Change.{Change}
use Rattle.ptpm_plan.specs.declared.every.FoundClocks.{FoundClocks}
use Rattle.ptpm_plan.specs.declared.rows.Row.{Row}
use Rattle.ptpm_plan.specs.declared.verdict.Verdict.{Verdict}
use Rattle.ptpm_plan.specs.declared.verdict.Verdict.TheVariants as verdicts
use Rattle.ptpm_plan.specs.declared.surveyed.SurveyedClock.{SurveyedClock}
use Rattle.ptpm_plan.specs.declared.wish.EveryWishes.{EveryWishes}

abbrev pub says_not_reached : Verdict → Bool
says_not_reached verdicts.NotReached = true
says_not_reached _ = false

abbrev pub says_refused : Verdict → Bool
says_refused verdicts.NoPort = true
says_refused (verdicts.GetRefused error) = true
says_refused (verdicts.NoValue fault) = true
says_refused verdicts.NotReached = false
says_refused (verdicts.Stays field) = false
says_refused (verdicts.Changes before after) = false

abbrev pub is_not_reached : Row → Bool
is_not_reached r = says_not_reached r.verdict

-- it can't be set
abbrev pub is_refused : Row → Bool
is_refused r = says_refused r.verdict

abbrev pub status_of_rows : Bool → Bool → ℕ
status_of_rows true refused = 3
status_of_rows false true = 1
status_of_rows false false = 0

-- ---- the clocks that a table of every clock found

abbrev pub is_in : ℕ → SurveyedClock → Bool
is_in domain c = c.domain == domain

-- all that answered in its domain, those that it leaves out among them
abbrev pub found_by : List Answer → List SurveyedClock → EveryWishes → FoundClocks
found_by answers clocks e = record {
  domain = e.domain;
  count = count_by (is_in e.domain) clocks;
  expected = e.clocks;
  unclear = count_by (is_unclear answers clocks e) e.except.items;
  uncounted = count_by (lacks_ports answers clocks e) clocks;
}

abbrev pub is_not_of : ℕ → Option ℕ → Bool
is_not_of count None = count == 0
is_not_of count (Some expected) = not (count == expected)

-- another number than the table says, or none; or not all that it asks for can be planned
abbrev pub is_short : FoundClocks → Bool
is_short f = is_not_of f.count f.expected || nat_lt 0 (f.unclear + f.uncounted)

-- ---- the status

abbrev pub has_unnamed : List Unnamed → Bool
has_unnamed [] = false
has_unnamed (u ∷ us) = true

-- a table names no clock, a clock gave no answer, a table of every clock did not find its clocks, or answers were left out
abbrev pub misses_some : List Row → List Unnamed → List FoundClocks → ℕ → Bool
misses_some rows unnamed found left_out =
    has_unnamed unnamed || (list_any is_not_reached rows || (list_any is_short found || nat_lt 0 left_out))

-- 3 if something is not reached; else 1 if something can't be set; else 0
abbrev pub status_of : List Row → List Unnamed → List FoundClocks → ℕ → ℕ
status_of rows unnamed found left_out = status_of_rows (misses_some rows unnamed found left_out) (list_any is_refused rows)

-- 8 in place of 0 if there are changes
abbrev pub or_changes : List Change → ℕ → ℕ
or_changes [] status = status
or_changes (c ∷ cs) status = if status == 0 then 8 else status
