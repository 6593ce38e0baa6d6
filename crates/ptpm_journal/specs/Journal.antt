-- What a journal has, and which record it takes (this project's profile).
use Rattle.std.specs.Prelude.{◌≡◌, ◌/◌, ◌%◌, ◌==◌, ◌&&◌, not, nat_lt, ℕ, Bool, true, false, List, [], ◌∷◌, ◌++◌, length, Option, Some, None, slice_get, if◌then◌else◌}
use Rattle.ptpm_journal.specs.declared.record.Step.{Step}
use Rattle.ptpm_journal.specs.declared.record.Head.{Head}
use Rattle.ptpm_journal.specs.declared.record.Mark.{Mark}
use Rattle.ptpm_journal.specs.declared.record.Mark.TheVariants as marks
use Rattle.ptpm_journal.specs.declared.record.Ending.{Ending}
use Rattle.ptpm_journal.specs.declared.record.Ending.TheVariants as endings
use Rattle.ptpm_journal.specs.declared.record.Record.{Record}
use Rattle.ptpm_journal.specs.declared.record.Record.TheVariants as records
use Rattle.ptpm_journal.specs.Order.{IsAllowedAt, marked}

pub record State : Type 0 where
  pub head : Option Head
  pub steps : List Step
  pub marks : List Mark
  pub is_ended : Bool

-- ---- how it may end

abbrev pub is_done : Mark → Bool
is_done marks.Untouched = false
is_done marks.Begun = false
is_done marks.Done = true
is_done marks.Refused = false
is_done marks.Answered = false
is_done marks.LetGo = false

abbrev pub is_begun : Mark → Bool
is_begun marks.Untouched = false
is_begun marks.Begun = true
is_begun marks.Done = false
is_begun marks.Refused = false
is_begun marks.Answered = false
is_begun marks.LetGo = false

-- it is not begun, and not let go
abbrev pub is_settled : Mark → Bool
is_settled marks.Untouched = true
is_settled marks.Begun = false
is_settled marks.Done = true
is_settled marks.Refused = true
is_settled marks.Answered = true
is_settled marks.LetGo = false

-- none may have an answer on its way, and one that is let go is given up
abbrev pub allows : Ending → Mark → Bool
allows endings.Complete mark = is_done mark
allows endings.Refused mark = is_settled mark
allows endings.Answered mark = is_settled mark
allows endings.Changed mark = is_settled mark
allows endings.GivenUp mark = not (is_begun mark)
allows endings.RolledBack mark = is_settled mark
allows endings.Stopped mark = is_settled mark
allows endings.InPart mark = is_settled mark

abbrev pub all_allow : Ending → List Mark → Bool
all_allow ending [] = true
all_allow ending (mark ∷ others) = allows ending mark && all_allow ending others

abbrev pub mark_is_refused : Mark → Bool
mark_is_refused marks.Untouched = false
mark_is_refused marks.Begun = false
mark_is_refused marks.Done = false
mark_is_refused marks.Refused = true
mark_is_refused marks.Answered = false
mark_is_refused marks.LetGo = false

abbrev pub mark_is_answered : Mark → Bool
mark_is_answered marks.Untouched = false
mark_is_answered marks.Begun = false
mark_is_answered marks.Done = false
mark_is_answered marks.Refused = false
mark_is_answered marks.Answered = true
mark_is_answered marks.LetGo = false

abbrev pub is_refused : Option Mark → Bool
is_refused None = false
is_refused (Some mark) = mark_is_refused mark

abbrev pub is_answered : Option Mark → Bool
is_answered None = false
is_answered (Some mark) = mark_is_answered mark

-- the step of an ending that an answer makes
abbrev pub is_at : Ending → ℕ → List Mark → Bool
is_at endings.Complete step ms = true
is_at endings.Refused step ms = is_refused (slice_get ms step)
is_at endings.Answered step ms = is_answered (slice_get ms step)
is_at endings.Changed step ms = true
is_at endings.GivenUp step ms = true
is_at endings.RolledBack step ms = true
is_at endings.Stopped step ms = true
is_at endings.InPart step ms = true

abbrev pub may_end : List Mark → Ending → ℕ → Bool
may_end ms ending step = all_allow ending ms && is_at ending step ms

-- ---- what it takes

abbrev pub has_all : Option Head → List Step → Bool
has_all None steps = false
has_all (Some head) steps = length steps == head.count

abbrev pub lacks_step : Option Head → List Step → Bool
lacks_step None steps = false
lacks_step (Some head) steps = nat_lt (length steps) head.count

-- its head and steps are there, and no ending
abbrev pub goes_on : State → Bool
goes_on s = has_all s.head s.steps && not s.is_ended

abbrev pub MayTake : State → Record → Type 0
MayTake s (records.Head head) = s.head ≡ None
MayTake s (records.Step step port id) = lacks_step s.head s.steps ≡ true
MayTake s (records.Note time note) = (goes_on s ≡ true) × IsAllowedAt s.steps s.marks note
MayTake s (records.Policy time policy) = goes_on s ≡ true
MayTake s (records.End time ending step) = (goes_on s ≡ true) × (may_end s.marks ending step ≡ true)
MayTake s (records.Text what) = goes_on s ≡ true

-- only a step takes memory
abbrev pub is_step : Record → Bool
is_step (records.Head head) = false
is_step (records.Step step port id) = true
is_step (records.Note time note) = false
is_step (records.Policy time policy) = false
is_step (records.End time ending step) = false
is_step (records.Text what) = false

-- the flag of steps in one row
abbrev pub is_in_one_row : Option Head → Bool
is_in_one_row None = false
is_in_one_row (Some head) = head.policy.flags / 2 % 2 == 1

-- In one row each step counts as one of the last group, which comes after all before it.
abbrev pub placed : Option Head → Step → Step
placed head step = if is_in_one_row head then record { clock = step.clock; domain = step.domain; group = 6 } else step

abbrev pub taken : State → Record → State
taken s (records.Head head) = record s { head = Some head }
taken s (records.Step step port id) =
    record s { steps = s.steps ++ placed s.head step ∷ []; marks = s.marks ++ marks.Untouched ∷ [] }
taken s (records.Note time note) = record s { marks = marked note s.marks }
taken s (records.Policy time policy) = s
taken s (records.End time ending step) = record s { is_ended = true }
taken s (records.Text what) = s
