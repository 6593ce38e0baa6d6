use Rattle.std.proofs.Common.{◌≡◌, ◌<◌, ℕ, Some, slice_get}
use Rattle.ptpm_journal.specs.declared.record.Mark.TheVariants as marks
use Rattle.ptpm_apply.specs.Rollout.{clock_in, clock_of}
use Rattle.ptpm_apply.proofs.rollout.Rollout.let_go_in.Given as goal

abbrev pub invariant-loop-step : goal.invariant-loop-step
invariant-loop-step l = (step : ℕ) → step < l.step → clock_of l.self step ≡ clock_in l.self l.lane
    → slice_get l.self.journal.marks step ≡ Some marks.LetGo → ⊥
