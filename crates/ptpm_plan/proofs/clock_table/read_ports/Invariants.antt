use Rattle.std.proofs.Common.{◌≡◌, drop, map}
use Rattle.toml.specs.View.{table_view, view}
use Rattle.ptpm_plan.specs.FileText.{port_in, port_value, ports_in, read_each}
use Rattle.ptpm_plan.proofs.clock_table.read_ports.Given as goal

-- what is ahead, after those that are read, makes them all
abbrev pub invariant-loop-value : goal.invariant-loop-value
invariant-loop-value l =
    read_each (λ before. port_in) (map port_value l.ports.items) (map view (drop l.value-index l.values)) ≡ ports_in (table_view l.table)
