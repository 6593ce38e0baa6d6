use Rattle.std.proofs.Common.{◌≡◌, ◌++◌, flat_map, take}
use Rattle.ptpm_plan.specs.Warnings.{of_best}
use Rattle.ptpm_plan.proofs.warnings.add_of_all.Given as goal

abbrev pub invariant-loop-of_domain : goal.invariant-loop-of_domain
invariant-loop-of_domain l = l.found.items ≡ l.initial.found.items ++ flat_map of_best (take l.of_domain-index l.best)
