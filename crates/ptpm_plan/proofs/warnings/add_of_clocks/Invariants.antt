use Rattle.std.proofs.Common.{◌≡◌, ◌++◌, flat_map, take}
use Rattle.ptpm_plan.specs.Warnings.{of_clock}
use Rattle.ptpm_plan.proofs.warnings.add_of_clocks.Given as goal

abbrev pub invariant-loop-clock : goal.invariant-loop-clock
invariant-loop-clock l = l.found.items ≡ l.initial.found.items ++ flat_map (of_clock l.changes) (take l.clock-index l.clocks)
