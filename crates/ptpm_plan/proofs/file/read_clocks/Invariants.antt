use Rattle.std.proofs.Common.{◌≡◌, drop, map}
use Rattle.toml.specs.View.{table_view, view}
use Rattle.ptpm_plan.specs.FileText.{clock_in, clock_value, clocks_in, read_each}
use Rattle.ptpm_plan.proofs.file.read_clocks.Given as goal

-- what is ahead, after those that are read, makes them all
abbrev pub invariant-loop-value : goal.invariant-loop-value
invariant-loop-value l =
    read_each clock_in (map clock_value l.clocks.items) (map view (drop l.value-index l.values)) ≡ clocks_in (table_view l.table)
