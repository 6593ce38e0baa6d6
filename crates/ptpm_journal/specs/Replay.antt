-- The notes of a journal, the first one first.
use Rattle.std.specs.Prelude.{◌≡◌, ℕ, List, [], ◌∷◌, Some, slice_get}
use Rattle.ptpm_journal.specs.declared.record.Step.{Step}
use Rattle.ptpm_journal.specs.declared.record.Mark.{Mark}
use Rattle.ptpm_journal.specs.declared.record.Note.{Note}
use Rattle.ptpm_journal.specs.InOrder.{mark_in}
use Rattle.ptpm_journal.specs.Order.{IsAllowedAt, marked}

abbrev pub marks_after : List Note → List Mark → List Mark
marks_after [] ms = ms
marks_after (note ∷ later) ms = marks_after later (marked note ms)

abbrev pub AreAllowedFrom : List Step → List Mark → List Note → Type 0
AreAllowedFrom steps ms [] = Unit {0}
AreAllowedFrom steps ms (note ∷ later) = IsAllowedAt steps ms note × AreAllowedFrom steps (marked note ms) later

-- ---- and what is noted in a journal, the latest one first

-- the notes of a journal, and then these
abbrev pub then_notes : List Note → List Note → List Note
then_notes before [] = before
then_notes before (note ∷ later) = then_notes (note ∷ before) later

-- a step has the mark that the journal says
abbrev pub AreThoseOf : List Note → List Mark → Type 0
AreThoseOf journal ms = (t : ℕ) (m : Mark) → slice_get ms t ≡ Some m → mark_in journal t ≡ m
