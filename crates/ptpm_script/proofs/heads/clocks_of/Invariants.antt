use Rattle.std.proofs.Common.{◌≡◌, ◌+◌, ◌++◌, drop, map}
use Rattle.toml.specs.View.{table_view, view}
use Rattle.ptpm_script.specs.Heads.{clock_in, clock_value, clocks_of}
use Rattle.ptpm_script.specs.Marks.{each}
use Rattle.ptpm_script.proofs.heads.clocks_of.Given as goal

-- what is made, and what those ahead will make, is all
abbrev pub invariant-loop-index : goal.invariant-loop-index
invariant-loop-index l =
    map clock_value l.clocks.items ++ each clock_in (l.index + 1) (map view (drop l.index l.values)) ≡ clocks_of (table_view l.file)
