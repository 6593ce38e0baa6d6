use Rattle.std.proofs.Common.{◌≡◌, drop, map}
use Rattle.toml.specs.View.{view}
use Rattle.ptpm_plan.specs.FileText.{clock_value, excepted, excepted_of, read_each}
use Rattle.ptpm_plan.proofs.every_table.excepted_of.Given as goal

-- what is ahead, after those that are read, makes them all
abbrev pub invariant-loop-name : goal.invariant-loop-name
invariant-loop-name l =
    read_each (λ before. excepted (map clock_value l.clocks)) l.except.items (map view (drop l.name-index l.names))
    ≡ excepted_of (map clock_value l.clocks) (view l.value)
