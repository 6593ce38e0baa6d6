use Rattle.std.proofs.Common.{◌≡◌, ◌+◌, ◌++◌, drop}
use Rattle.ptpm_plan.specs.Warnings.{of_change, of_changes}
use Rattle.ptpm_plan.proofs.warnings.add_of_changes.Given as goal

-- what is found, and what is ahead, is all
abbrev pub invariant-loop-place : goal.invariant-loop-place
invariant-loop-place l =
    l.found.items ++ of_changes (of_change l.changes l.surveyed) (l.place + 1) (drop l.place l.changes)
    ≡ l.initial.found.items ++ of_changes (of_change l.changes l.surveyed) 1 l.changes
