use Rattle.std.proofs.Common.{◌≡◌, ◌-◌, ◌++◌, map, replicate}
use Rattle.std.specs.List.{range_with_len}
use Rattle.ptpm_data.specs.declared.ports.TheConstants.{PORTS}
use Rattle.ptpm_data.specs.Changed.{port_changed}
use Rattle.ptpm_data.specs.Changes.{with_ports}
use Rattle.ptpm_data.proofs.data_sets.DataSets.changes_of_ports.Given as goal

abbrev pub invariant-loop-place : goal.invariant-loop-place
invariant-loop-place l =
    l.ports ≡ map (port_changed l.self (with_ports l.port l.self l.change)) (range_with_len 1 l.place) ++ replicate (PORTS - l.place) (record { 0 = 0 })
