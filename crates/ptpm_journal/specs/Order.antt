-- Which step may be begun, and which note a run may make (this project's profile).
use Rattle.std.specs.Prelude.{◌≡◌, ◌<◌, ℕ, ◌==◌, ◌&&◌, ◌||◌, not, nat_lt, Bool, true, List, Some, slice_get, slice_set}
use Rattle.ptpm_journal.specs.declared.record.Step.{Step}
use Rattle.ptpm_journal.specs.declared.record.Mark.{Mark}
use Rattle.ptpm_journal.specs.declared.record.Mark.TheVariants as marks
use Rattle.ptpm_journal.specs.declared.record.Outcome.{Outcome}
use Rattle.ptpm_journal.specs.declared.record.Outcome.TheVariants as outcomes
use Rattle.ptpm_journal.specs.declared.record.Note.{Note}
use Rattle.ptpm_journal.specs.declared.record.Note.TheVariants as notes

-- Steps of one clock come one after the other. A move to another domain comes after all. In a domain ranks do too, and so do the groups,
-- except the free one.
abbrev pub is_before : Step → Step → Bool
is_before x y =
    x.clock == y.clock || y.group == 6
    || (x.domain == y.domain && not (x.group == 3) && not (y.group == 3) && (nat_lt x.group y.group || y.group == 5))

-- those up to a place that have to be done before a step are done
abbrev pub AreDone : List Step → List Mark → ℕ → ℕ → Type 0
AreDone steps ms place upto = (earlier : ℕ) (x y : Step) → earlier < upto
    → slice_get steps earlier ≡ Some x → slice_get steps place ≡ Some y → is_before x y ≡ true
    → slice_get ms earlier ≡ Some marks.Done

pub record MayBegin (steps : List Step) (ms : List Mark) (place : ℕ) : Type 0 where
  pub untouched : slice_get ms place ≡ Some marks.Untouched
  pub before : AreDone steps ms place place

-- ---- notes

abbrev pub mark_told : Outcome → Mark
mark_told outcomes.Done = marks.Done
mark_told outcomes.Refused = marks.Refused
mark_told outcomes.Answered = marks.Answered

abbrev pub step_of : Note → ℕ
step_of (notes.Begun step number) = step
step_of (notes.NotBegun step) = step
step_of (notes.LetGo step) = step
step_of (notes.Told step outcome error) = step

-- what its step is after it
abbrev pub mark_by : Note → Mark
mark_by (notes.Begun step number) = marks.Begun
mark_by (notes.NotBegun step) = marks.Untouched
mark_by (notes.LetGo step) = marks.LetGo
mark_by (notes.Told step outcome error) = mark_told outcome

abbrev pub marked : Note → List Mark → List Mark
marked note ms = slice_set ms (step_of note) (mark_by note)

-- whether a run may make it where the steps have these marks
abbrev pub IsAllowedAt : List Step → List Mark → Note → Type 0
IsAllowedAt steps ms (notes.Begun step number) = MayBegin steps ms step
IsAllowedAt steps ms (notes.NotBegun step) = slice_get ms step ≡ Some marks.Begun
IsAllowedAt steps ms (notes.LetGo step) = slice_get ms step ≡ Some marks.Begun
IsAllowedAt steps ms (notes.Told step outcome error) = slice_get ms step ≡ Some marks.Begun
