use Rattle.std.proofs.Common.{◌≡◌, ◌++◌, map, take, drop}
use Rattle.ptpm_data.specs.PortChange.{port_after}
use Rattle.ptpm_data.proofs.changes.change_named.Given as goal

abbrev pub invariant-loop-set : goal.invariant-loop-set
invariant-loop-set l =
    l.set-items ≡ map (port_after l.change) (take l.set-index l.initial.set-items) ++ drop l.set-index l.initial.set-items
