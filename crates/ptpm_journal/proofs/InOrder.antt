-- Notes of which each was allowed are in order.
use Rattle.std.proofs.Common.{arith, ◌≡◌, ◌∙◌, ◌<◌, ◌⊎◌, ℕ, true, List, [], ◌∷◌, inl, inr, refl, sym, subst}
use Rattle.std.specs.Prelude.{◌≢◌}
use Rattle.std.proofs.lemmas.Bool.Decides.{eqb_tells}
use Rattle.ptpm_journal.specs.declared.record.Step.{Step}
use Rattle.ptpm_journal.specs.declared.record.Mark.{Mark}
use Rattle.ptpm_journal.specs.declared.record.Mark.TheVariants as marks
use Rattle.ptpm_journal.specs.declared.record.Outcome.{Outcome}
use Rattle.ptpm_journal.specs.declared.record.Outcome.TheVariants as outcomes
use Rattle.ptpm_journal.specs.declared.record.Note.{Note}
use Rattle.ptpm_journal.specs.declared.record.Note.TheVariants as notes
use Rattle.ptpm_journal.specs.Order.{is_before, mark_by, mark_told, step_of}
use Rattle.ptpm_journal.specs.InOrder.{AreAllowed, HasOneEach, IsAllowed, IsBegunInOrder, IsInOrder, Precedes, StaysTold, mark_in}

-- ---- marks that differ

untouched_is_not_done : marks.Untouched ≢ marks.Done
untouched_is_not_done e = cc

begun_is_not_done : marks.Begun ≢ marks.Done
begun_is_not_done e = cc

begun_is_touched : marks.Begun ≢ marks.Untouched
begun_is_touched e = cc

untouched_is_not_told : (outcome : Outcome) → marks.Untouched ≢ mark_told outcome
untouched_is_not_told outcomes.Done e = cc
untouched_is_not_told outcomes.Refused e = cc
untouched_is_not_told outcomes.Answered e = cc

begun_is_not_told : (outcome : Outcome) → marks.Begun ≢ mark_told outcome
begun_is_not_told outcomes.Done e = cc
begun_is_not_told outcomes.Refused e = cc
begun_is_not_told outcomes.Answered e = cc

-- ---- one more note

pub of_other : (note : Note) (before : List Note) (t : ℕ) → (step_of note ≡ t → ⊥) → mark_in (note ∷ before) t ≡ mark_in before t
of_other note before t ne = elim (eqb_tells (step_of note) t) [ inl x ↦ absurd (ne x.1) | inr x ↦ grind (arith, x.0) ]

pub of_own : (note : Note) (before : List Note) (t : ℕ) → step_of note ≡ t → mark_in (note ∷ before) t ≡ mark_by note
of_own note before t e = elim (eqb_tells (step_of note) t) [ inl x ↦ grind (arith, x.0) | inr x ↦ absurd (x.1 e) ]

-- the step of a note that is allowed is untouched or begun
is_open : (steps : ℕ → Step) (note : Note) (before : List Note) → IsAllowed steps before note
    → (mark_in before (step_of note) ≡ marks.Untouched) ⊎ (mark_in before (step_of note) ≡ marks.Begun)
is_open steps (notes.Begun t number) before h = inl h.0
is_open steps (notes.NotBegun t) before h = inr h
is_open steps (notes.LetGo t) before h = inr h
is_open steps (notes.Told t outcome error) before h = inr h

-- so any other mark stays
leaves : (steps : ℕ → Step) (note : Note) (before : List Note) (u : ℕ) (k : Mark) → IsAllowed steps before note → mark_in before u ≡ k
    → marks.Untouched ≢ k → marks.Begun ≢ k → mark_in (note ∷ before) u ≡ k
leaves steps note before u k h at_u no_untouched no_begun =
    of_other note before u
    (λ e. elim (is_open steps note before h) [
      | inl x ↦ no_untouched (sym x ∙ (subst (λ (t : ℕ). mark_in before (step_of note) ≡ mark_in before t) e refl ∙ at_u))
      | inr x ↦ no_begun (sym x ∙ (subst (λ (t : ℕ). mark_in before (step_of note) ≡ mark_in before t) e refl ∙ at_u))
    ])
    ∙ at_u

-- all that precede the step of a note are done, unless it makes that untouched
own_in_order : (steps : ℕ → Step) (note : Note) (before : List Note) (u : ℕ) → IsAllowed steps before note → IsInOrder steps before
    → mark_by note ≢ marks.Untouched → Precedes steps u (step_of note) → mark_in before u ≡ marks.Done
own_in_order steps (notes.Begun t number) before u h order touched p = h.1 u p
own_in_order steps (notes.NotBegun t) before u h order touched p = absurd (touched refl)
own_in_order steps (notes.LetGo t) before u h order touched p = order t u (λ e. begun_is_touched (sym h ∙ e)) p
own_in_order steps (notes.Told t outcome error) before u h order touched p = order t u (λ e. begun_is_touched (sym h ∙ e)) p

stays_in_order : (steps : ℕ → Step) (note : Note) (before : List Note) → IsAllowed steps before note → IsInOrder steps before
    → (t u : ℕ) → mark_in (note ∷ before) t ≢ marks.Untouched → Precedes steps u t → mark_in before u ≡ marks.Done
stays_in_order steps note before h order t u touched p = elim (eqb_tells (step_of note) t) [
  | inl x ↦ own_in_order steps note before u h order (λ e. touched (of_own note before t x.1 ∙ e)) (subst (λ (y : ℕ). Precedes steps u y) (sym x.1) p)
  | inr x ↦ order t u (λ e. touched (of_other note before t x.1 ∙ e)) p
]

pub in_order : (steps : ℕ → Step) (journal : List Note) → AreAllowed steps journal → IsInOrder steps journal
in_order steps [] h t u touched p = absurd (touched refl)
in_order steps (note ∷ before) h t u touched p =
    leaves steps note before u marks.Done h.0 (stays_in_order steps note before h.0 (in_order steps before h.1) t u touched p)
    untouched_is_not_done begun_is_not_done

-- ---- one of each clock

which_first : (t u : ℕ) → (t < u) ⊎ ((t ≡ u) ⊎ (u < t))
which_first t u = grind (arith, eqb_tells t u)

of_one_clock : (x y : Step) → x.clock ≡ y.clock → is_before x y ≡ true
of_one_clock x y e = grind (arith, e, eqb_tells x.clock y.clock)

not_both : (steps : ℕ → Step) (journal : List Note) → IsInOrder steps journal → (t u : ℕ) → t < u → (steps t).clock ≡ (steps u).clock
    → mark_in journal t ≡ marks.Begun → mark_in journal u ≡ marks.Begun → ⊥
not_both steps journal order t u first same at_t at_u =
    begun_is_not_done (sym at_t ∙ order u t (λ e. begun_is_touched (sym at_u ∙ e)) (first, of_one_clock (steps t) (steps u) same))

pub one_each : (steps : ℕ → Step) (journal : List Note) → AreAllowed steps journal → HasOneEach steps journal
one_each steps journal h t u same at_t at_u =
    let order : IsInOrder steps journal = in_order steps journal h in elim (which_first t u) [
      | inl first ↦ absurd (not_both steps journal order t u first same at_t at_u)
      | inr rest ↦ elim rest [ inl is ↦ is | inr last ↦ absurd (not_both steps journal order u t last (sym same) at_u at_t) ]
    ]

-- ---- what was ever noted

pub begun_in_order : (steps : ℕ → Step) (journal : List Note) → AreAllowed steps journal → IsBegunInOrder steps journal
begun_in_order steps [] h t number u has p = absurd has
begun_in_order steps (note ∷ before) h t number u (inr has) p =
    leaves steps note before u marks.Done h.0 (begun_in_order steps before h.1 t number u has p) untouched_is_not_done begun_is_not_done
begun_in_order steps (note ∷ before) h t number u (inl e) p =
    let may : IsAllowed steps before (notes.Begun t number) = subst (λ (x : Note). IsAllowed steps before x) e h.0 in
    leaves steps note before u marks.Done h.0 (may.1 u p) untouched_is_not_done begun_is_not_done

pub stays_told : (steps : ℕ → Step) (journal : List Note) → AreAllowed steps journal → StaysTold journal
stays_told steps [] h t error outcome has = absurd has
stays_told steps (note ∷ before) h t error outcome (inr has) =
    leaves steps note before t (mark_told outcome) h.0 (stays_told steps before h.1 t error outcome has) (untouched_is_not_told outcome)
    (begun_is_not_told outcome)
stays_told steps (note ∷ before) h t error outcome (inl e) =
    subst (λ (x : Note). mark_in (x ∷ before) t ≡ mark_told outcome) (sym e) (of_own (notes.Told t outcome error) before t refl)
