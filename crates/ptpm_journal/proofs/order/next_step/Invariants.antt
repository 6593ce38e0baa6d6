use Rattle.std.specs.Prelude.{ℕ, ◌<◌}
use Rattle.ptpm_journal.specs.Order.{MayBegin}
use Rattle.ptpm_journal.proofs.order.next_step.Given as goal

-- none of those before may be begun
abbrev pub invariant-loop-place : goal.invariant-loop-place
invariant-loop-place l = (earlier : ℕ) → earlier < l.place → MayBegin l.steps l.marks earlier → ⊥
