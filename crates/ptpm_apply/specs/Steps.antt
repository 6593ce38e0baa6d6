-- The steps of a change of several clocks: SETs that are asked one after the other. Each is named by its place, from 0 on.
use Rattle.std.specs.Prelude.{◌≡◌, ◌⊎◌, ℕ, true, List}
use Rattle.std.specs.List.{AllByRecursion, Contains}
use Rattle.ptpm_data.specs.Request.{RequestValue}
use Rattle.ptpm_journal.specs.declared.record.Mark.TheVariants as marks
use Rattle.ptpm_journal.specs.declared.record.Note.{Note as Noted}
use Rattle.ptpm_journal.specs.declared.record.Note.TheVariants as noted
use Rattle.ptpm_journal.specs.declared.record.Step.{Step}
use Rattle.ptpm_journal.specs.InOrder.{HasNote, Precedes, mark_in}
use Rattle.ptpm_asker.specs.Desk.{Begins, IsBegun, Move, Note}
use Rattle.ptpm_asker.specs.Question.{is_question}
use Rattle.ptpm_apply.specs.Watching.{Sent}

-- a question, or the step that it is named
abbrev pub IsAsked : (ℕ → RequestValue) → Move → Type 0
IsAsked steps (Begins tag request) = (is_question request ≡ true) ⊎ (request ≡ steps tag)
IsAsked steps _ = Unit {0}

-- nothing but questions and steps is begun
abbrev pub AreAsked : (ℕ → RequestValue) → List Move → Type 0
AreAsked steps moves = AllByRecursion (IsAsked steps) moves

-- a message with a step that is noted as begun under its number
pub record IsOfStep (steps : ℕ → RequestValue) (notes : List Note) (m : Sent) : Type 0 where
  pub tag : ℕ
  pub is_step : m.request ≡ steps tag
  pub noted : Contains notes (IsBegun tag m.number)

abbrev pub IsNoted : (ℕ → RequestValue) → List Note → Sent → Type 0
IsNoted steps notes m = (is_question m.request ≡ true) ⊎ IsOfStep steps notes m

-- ---- a journal

-- it has what a session noted as begun
abbrev pub HasBegun : List Noted → List Note → Type 0
HasBegun journal notes = (tag number : ℕ) → Contains notes (IsBegun tag number) → HasNote journal (noted.Begun tag number)

-- a message with a step that the journal has as begun under its number. Each step that has to be done before it is done
pub record IsSentInOrder (requests : ℕ → RequestValue) (steps : ℕ → Step) (journal : List Noted) (m : Sent) : Type 0 where
  pub tag : ℕ
  pub is_step : m.request ≡ requests tag
  pub begun : HasNote journal (noted.Begun tag m.number)
  pub done : (u : ℕ) → Precedes steps u tag → mark_in journal u ≡ marks.Done
