-- The marks are those of before; room for the place is what is left to make.
use Rattle.std.proofs.Common.{◌≡◌, ℕ, ◌+◌, ◌-◌, false, get_or, vec_len}
use Rattle.ptpm_site.proofs.tree.builder.cover.Given as goal

abbrev pub invariant-loop-marks : goal.invariant-loop-marks
invariant-loop-marks l = (p : ℕ) → get_or l.marks.items p false ≡ get_or l.fn.marks.items p false

abbrev pub decreases-loop-marks : goal.decreases-loop-marks
decreases-loop-marks l = (l.place + 1) - vec_len l.marks
