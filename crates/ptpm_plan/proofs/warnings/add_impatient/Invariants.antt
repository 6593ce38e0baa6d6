use Rattle.ptpm_plan.specs.Warnings.{AddsImpatient}
use Rattle.ptpm_plan.proofs.warnings.add_impatient.Given as goal

abbrev pub invariant-loop-place : goal.invariant-loop-place
invariant-loop-place l = AddsImpatient l.initial.found.items l.found.items
