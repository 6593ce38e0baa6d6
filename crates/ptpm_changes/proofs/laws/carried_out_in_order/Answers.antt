-- What precedes a step is done before a message of it leaves.
use Rattle.ptpm_network.proofs.Common.{◌≡◌, ◌⊎◌, inl, inr, ℕ, ◌==◌, true, by_test, List, [], ◌∷◌, sym, ◌∙◌, ap, subst, cond-true, cond-false, eqb-true, Contains, RequestValue, Network}
use Rattle.ptpm_asker.specs.Question.{is_question}
use Rattle.ptpm_apply.specs.Steps.{IsNoted}
use Rattle.ptpm_apply.specs.Watching.{Sent}
use Rattle.ptpm_journal.specs.declared.record.Step.{Step}
use Rattle.ptpm_journal.specs.declared.record.Note.{Note}
use Rattle.ptpm_journal.specs.InOrder.{HasNote, Precedes, mark_in}
use Rattle.ptpm_journal.specs.Order.{mark_by, step_of}
use Rattle.ptpm_journal.proofs.InOrder.{begun_in_order}
use Rattle.ptpm_restarts.specs.ActsAsIfNever.{ActsAsIfNever}
use Rattle.ptpm_restarts.specs.Incidents.{Incident}
use Rattle.ptpm_restarts.specs.Restarting.{RestartingNetwork}
use Rattle.ptpm_changes.specs.Change.{IsCarriedOut, IsChange, IsDone, IsInOrder}
use Rattle.ptpm_changes.specs.Lane.{Lane, messages_of, notes_of}
use Rattle.ptpm_changes.proofs.Carried.{carried-out, messages-noted}
use Rattle.ptpm_journal.specs.declared.record.Mark.TheVariants as marks
use Rattle.ptpm_journal.specs.declared.record.Note.TheVariants as notes
use Rattle.ptpm_journal.specs.declared.record.Outcome.TheVariants as outcomes
use Rattle.ptpm_changes.proofs.laws.carried_out_in_order.Goals as goal

-- the answer that makes a step done
told-done : (note : Note) (u : ℕ) → step_of note ≡ u → mark_by note ≡ marks.Done → (error : ℕ) × (note ≡ notes.Told u outcomes.Done error)
told-done (notes.Begun t number) u at is = absurd (cc)
told-done (notes.NotBegun t) u at is = absurd (cc)
told-done (notes.LetGo t) u at is = absurd (cc)
told-done (notes.Told t outcomes.Done error) u at is = (error, ap (λ n. notes.Told n outcomes.Done error) at)
told-done (notes.Told t outcomes.Refused error) u at is = absurd (cc)
told-done (notes.Told t outcomes.Answered error) u at is = absurd (cc)

done-told : (journal : List Note) (u : ℕ) → mark_in journal u ≡ marks.Done → (error : ℕ) × HasNote journal (notes.Told u outcomes.Done error)
done-told [] u is = absurd (cc)
done-told (note ∷ before) u is = by_test (step_of note == u)
    (λ y. let found = told-done note u (eqb-true (step_of note) u y) (sym (cond-true (step_of note == u) (mark_by note) (mark_in before u) y) ∙ is) in
    (found.0, inl found.1))
    (λ n. let found = done-told before u (sym (cond-false (step_of note == u) (mark_by note) (mark_in before u) n) ∙ is) in
    (found.0, inr found.1))

module _ (N : Network) (requests : ℕ → RequestValue) (steps : ℕ → Step) (session_of : ℕ → ℕ) (lane : ℕ → Lane) (journal : List Note) (is : List Incident)
    (h : IsChange N requests steps session_of lane journal is) (k : RestartingNetwork) (a : ActsAsIfNever N is k) where
  done-before : (t number u : ℕ) → HasNote journal (notes.Begun t number) → Precedes steps u t → IsDone N (session_of u) (a.account (session_of u)) (requests u)
  done-before t number u has before =
      let found = done-told journal u (begun_in_order steps journal h.allowed t number u has before) in
      let told = h.told u found.0 outcomes.Done found.1 in
      let value = told.is_said in
      record {
        number = told.number;
        octets = value.0;
        carried_out = subst (IsCarriedOut N (session_of u) (a.account (session_of u)) (requests u) told.number) value.1
            (carried-out N (session_of u) requests is (lane (session_of u)) (h.lanes u) k a u told.number told.outcome told.noted);
      }

  by-noted : (v : ℕ) (m : Sent) → IsNoted requests (notes_of (lane (session_of v))) m
      → (is_question m.request ≡ true) ⊎ IsInOrder N requests steps session_of a.account m
  by-noted v m (inl asks) = inl asks
  by-noted v m (inr step) = inr (record {
    step = step.tag;
    is = step.is_step;
    before = λ u before. done-before step.tag m.number u (h.begun v step.tag m.number step.noted) before;
  })

  pub sent-in-order : (v : ℕ) (m : Sent) → Contains (messages_of (lane (session_of v))) m
      → (is_question m.request ≡ true) ⊎ IsInOrder N requests steps session_of a.account m
  sent-in-order v m has = by-noted v m (messages-noted N (session_of v) requests is (lane (session_of v)) (h.lanes v) m has)

pub returns : goal.returns
returns c = λ N requests steps session_of lane journal is k a v m h has. sent-in-order N requests steps session_of lane journal is h k a v m has
