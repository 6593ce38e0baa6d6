-- A change that ends as complete has read each member.
use Rattle.std.proofs.Common.{◌≡◌, ◌⊎◌, ◌+◌, ◌<◌, ℕ, List, [], ◌∷◌, length, refl, sym, subst, inl, inr, Option, arith}
use Rattle.ptpm_journal.specs.Journal.{State}
use Rattle.ptpm_apply.specs.declared.event.Event.{Event}
use Rattle.ptpm_apply.specs.declared.stage.Stage.{Stage}
use Rattle.ptpm_apply.specs.Going.{AreDone}
use Rattle.ptpm_apply.specs.Moves.{IsMove, IsMoveTo}
use Rattle.ptpm_apply.specs.Rollout.{RolloutValue}
use Rattle.ptpm_apply.specs.Runs.{IsRun, Turn, WasRead}
use Rattle.ptpm_journal.specs.declared.record.Ending.TheVariants as endings
use Rattle.ptpm_apply.specs.declared.stage.Stage.TheVariants as stages
use Rattle.ptpm_apply.specs.declared.stage.Then.TheVariants as thens
use Rattle.ptpm_apply.proofs.laws.complete_was_read.Goals as goal

split : (k last : ℕ) → k < last + 1 → (k < last) ⊎ (k ≡ last)
split k last h = grind arith

read_below : (ts : List Turn) (o : RolloutValue) (step : ℕ) → IsRun o ts → o.stage ≡ stages.Verifying step
    → AreDone o.journal × ((k : ℕ) → k < step → WasRead o.journal ts k)
read_below [] o step run is = absurd (cc (run, is))
read_below (t ∷ ts) o step run is =
    let move : IsMoveTo t.before t.event o (stages.Verifying step) = subst (λ (s : Stage). IsMoveTo t.before t.event o s) is run.0 in
    elim move.1 [
      | inl first ↦
          (subst (λ (s : State). AreDone s) (sym move.0) first.1, λ k below. absurd (omega (arith, first.0)))
      | inr next ↦
          let earlier = read_below ts t.before next.last run.1 next.read in (
            subst (λ (s : State). AreDone s) (sym move.0) earlier.0,
            λ k below. subst (λ (s : State). WasRead s (t ∷ ts) k) (sym move.0)
                (elim (split k next.last (subst (λ (n : ℕ). k < n) next.is_next below)) [
                  | inl less ↦ inr (earlier.1 k less)
                  | inr same ↦ inl (refl, subst (λ (n : ℕ). t.before.stage ≡ stages.Verifying n) (sym same) next.read, next.wanted)
                ]),
          )
    ]

complete_was_read : (ts : List Turn) (o v : RolloutValue) (e : Event) (step : Option ℕ) → IsRun o ts → IsMove o e v
    → v.stage ≡ stages.Noting (thens.End endings.Complete step) → (k : ℕ) → k < length o.steps
    → AreDone o.journal × WasRead o.journal (record { before = o; event = e } ∷ ts) k
complete_was_read ts o v e step run h is k below =
    let move : IsMoveTo o e v (stages.Noting (thens.End endings.Complete step)) = subst (λ (s : Stage). IsMoveTo o e v s) is h in
    elim move.1 [
      | inl none ↦ absurd (omega (arith, none, below))
      | inr last ↦
          let earlier = read_below ts o last.last run last.read in (
            earlier.0,
            elim (split k last.last (omega (arith, last.is_last, below))) [
              | inl less ↦ inr (earlier.1 k less)
              | inr same ↦ inl (refl, subst (λ (n : ℕ). o.stage ≡ stages.Verifying n) (sym same) last.read, last.wanted)
            ],
          )
    ]

pub returns : goal.returns
returns c = complete_was_read
