-- Notes that may be taken are allowed after those of a journal.
use Rattle.std.proofs.Common.{arith, ◌≡◌, ◌∙◌, ap, ℕ, ◌<◌, List, [], ◌∷◌, length, get_or, inl, inr, sym, subst, Some}
use Rattle.std.specs.Prelude.{slice_get, slice_set}
use Rattle.std.proofs.lemmas.Bool.Decides.{eqb_tells}
use Rattle.std.proofs.lemmas.List.{get_or-set_other, get_or-set_same, length-set}
use Rattle.std.proofs.lemmas.Option.{get_or_from_slice_get, slice_get-get_or, slice_get_within}
use Rattle.ptpm_journal.specs.declared.record.Step.{Step}
use Rattle.ptpm_journal.specs.declared.record.Mark.{Mark}
use Rattle.ptpm_journal.specs.declared.record.Note.{Note}
use Rattle.ptpm_journal.specs.Order.{IsAllowedAt, mark_by, marked, step_of}
use Rattle.ptpm_journal.specs.InOrder.{AreAllowed, IsAllowed}
use Rattle.ptpm_journal.specs.Replay.{AreAllowedFrom, AreThoseOf, marks_after, then_notes}
use Rattle.ptpm_journal.proofs.InOrder.{of_other, of_own}
use Rattle.ptpm_journal.specs.declared.record.Mark.TheVariants as marks
use Rattle.ptpm_journal.specs.declared.record.Note.TheVariants as notes
use Rattle.ptpm_journal.proofs.laws.marks_are_those_of_the_notes.Goals as goal

there : (steps : List Step) (ms : List Mark) (note : Note) → IsAllowedAt steps ms note → step_of note < length ms
there steps ms (notes.Begun t number) h = slice_get_within ms t marks.Untouched h.untouched
there steps ms (notes.NotBegun t) h = slice_get_within ms t marks.Begun h
there steps ms (notes.LetGo t) h = slice_get_within ms t marks.Begun h
there steps ms (notes.Told t outcome error) h = slice_get_within ms t marks.Begun h

-- what is at the place that is set, and elsewhere
set_here : (ms : List Mark) (t : ℕ) (v m : Mark) → t < length ms → slice_get (slice_set ms t v) t ≡ Some m → v ≡ m
set_here ms t v m within e = sym (get_or-set_same ms t v m within) ∙ get_or_from_slice_get (slice_set ms t v) t m m e

set_there : (ms : List Mark) (s t : ℕ) (v m : Mark) → (s ≡ t → ⊥) → slice_get (slice_set ms s v) t ≡ Some m → slice_get ms t ≡ Some m
set_there ms s t v m ne e =
    let within : t < length ms = omega (arith, length-set ms s v, slice_get_within (slice_set ms s v) t m e) in
    slice_get-get_or ms t m within
    ∙ ap Some (sym (get_or-set_other ms s t v m (λ x. ne (sym x))) ∙ get_or_from_slice_get (slice_set ms s v) t m m e)

marks_after_note : (note : Note) (journal : List Note) (ms : List Mark) → step_of note < length ms → AreThoseOf journal ms
    → AreThoseOf (note ∷ journal) (marked note ms)
marks_after_note note journal ms within those t m e = elim (eqb_tells (step_of note) t) [
  | inl x ↦
      of_own note journal t x.1
      ∙ set_here ms (step_of note) (mark_by note) m within
      (subst (λ (y : ℕ). slice_get (marked note ms) y ≡ Some m) (sym x.1) e)
  | inr x ↦ of_other note journal t x.1 ∙ those t m (set_there ms (step_of note) t (mark_by note) m x.1 e)
]

allowed_after : (steps : List Step) (other : Step) (ms : List Mark) (journal : List Note) (note : Note) → length steps ≡ length ms
    → AreThoseOf journal ms → IsAllowedAt steps ms note → IsAllowed (λ t. get_or steps t other) journal note
allowed_after steps other ms journal (notes.Begun t number) as_many those h =
    let within : t < length steps = omega (arith, as_many, slice_get_within ms t marks.Untouched h.untouched) in (
      those t marks.Untouched h.untouched,
      λ u p. those u marks.Done
          (h.before u (get_or steps u other) (get_or steps t other) p.0 (slice_get-get_or steps u other (omega (arith, within, p.0)))
          (slice_get-get_or steps t other within) p.1),
    )
allowed_after steps other ms journal (notes.NotBegun t) as_many those h = those t marks.Begun h
allowed_after steps other ms journal (notes.LetGo t) as_many those h = those t marks.Begun h
allowed_after steps other ms journal (notes.Told t outcome error) as_many those h = those t marks.Begun h

replayed : (steps : List Step) (other : Step) (ms : List Mark) (journal notes : List Note) → length steps ≡ length ms
    → AreThoseOf journal ms → AreAllowed (λ t. get_or steps t other) journal → AreAllowedFrom steps ms notes
    → AreAllowed (λ t. get_or steps t other) (then_notes journal notes)
    × AreThoseOf (then_notes journal notes) (marks_after notes ms)
replayed steps other ms journal [] as_many those allowed h = (allowed, those)
replayed steps other ms journal (note ∷ later) as_many those allowed h =
    replayed steps other (marked note ms) (note ∷ journal) later (as_many ∙ sym (length-set ms (step_of note) (mark_by note)))
    (marks_after_note note journal ms (there steps ms note h.0) those)
    (allowed_after steps other ms journal note as_many those h.0, allowed) h.1

pub returns : goal.returns
returns c = replayed
