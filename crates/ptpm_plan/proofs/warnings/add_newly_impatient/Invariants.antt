use Rattle.ptpm_plan.specs.Warnings.{AddsImpatient}
use Rattle.ptpm_plan.proofs.warnings.add_newly_impatient.Given as goal

abbrev pub invariant-loop-port : goal.invariant-loop-port
invariant-loop-port l = AddsImpatient l.initial.found.items l.found.items
