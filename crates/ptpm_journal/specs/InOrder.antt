-- The notes of a journal, the latest one first, and what they say of each step.
use Rattle.std.specs.Prelude.{◌≡◌, ◌≢◌, ◌<◌, ◌⊎◌, ℕ, ◌==◌, true, List, [], ◌∷◌, if◌then◌else◌}
use Rattle.ptpm_journal.specs.declared.record.Step.{Step}
use Rattle.ptpm_journal.specs.declared.record.Mark.{Mark}
use Rattle.ptpm_journal.specs.declared.record.Mark.TheVariants as marks
use Rattle.ptpm_journal.specs.declared.record.Outcome.{Outcome}
use Rattle.ptpm_journal.specs.declared.record.Note.{Note}
use Rattle.ptpm_journal.specs.declared.record.Note.TheVariants as notes
use Rattle.ptpm_journal.specs.Order.{is_before, mark_by, mark_told, step_of}

-- the mark of a step: the latest note of it makes it
abbrev pub mark_in : List Note → ℕ → Mark
mark_in [] t = marks.Untouched
mark_in (note ∷ before) t = if step_of note == t then mark_by note else mark_in before t

-- u has to be done before t is begun
abbrev pub Precedes : (ℕ → Step) → ℕ → ℕ → Type 0
Precedes steps u t = (u < t) × (is_before (steps u) (steps t) ≡ true)

-- whether a run may make this note after those
abbrev pub IsAllowed : (ℕ → Step) → List Note → Note → Type 0
IsAllowed steps before (notes.Begun t number) =
    (mark_in before t ≡ marks.Untouched) × ((u : ℕ) → Precedes steps u t → mark_in before u ≡ marks.Done)
IsAllowed steps before (notes.NotBegun t) = mark_in before t ≡ marks.Begun
IsAllowed steps before (notes.LetGo t) = mark_in before t ≡ marks.Begun
IsAllowed steps before (notes.Told t outcome error) = mark_in before t ≡ marks.Begun

abbrev pub AreAllowed : (ℕ → Step) → List Note → Type 0
AreAllowed steps [] = Unit {0}
AreAllowed steps (note ∷ before) = IsAllowed steps before note × AreAllowed steps before

-- all that precede a step are done, unless it is untouched
abbrev pub IsInOrder : (ℕ → Step) → List Note → Type 0
IsInOrder steps journal = (t u : ℕ) → mark_in journal t ≢ marks.Untouched → Precedes steps u t → mark_in journal u ≡ marks.Done

-- of a clock one step at most is begun
abbrev pub HasOneEach : (ℕ → Step) → List Note → Type 0
HasOneEach steps journal = (t u : ℕ) → (steps t).clock ≡ (steps u).clock
    → mark_in journal t ≡ marks.Begun → mark_in journal u ≡ marks.Begun → t ≡ u

abbrev pub HasNote : List Note → Note → Type 0
HasNote [] note = ⊥
HasNote (latest ∷ before) note = (latest ≡ note) ⊎ HasNote before note

-- all that precede a step that was ever begun are done
abbrev pub IsBegunInOrder : (ℕ → Step) → List Note → Type 0
IsBegunInOrder steps journal = (t number u : ℕ) → HasNote journal (notes.Begun t number) → Precedes steps u t
    → mark_in journal u ≡ marks.Done

-- an answer that is noted stays
abbrev pub StaysTold : List Note → Type 0
StaysTold journal = (t error : ℕ) (outcome : Outcome) → HasNote journal (notes.Told t outcome error)
    → mark_in journal t ≡ mark_told outcome
