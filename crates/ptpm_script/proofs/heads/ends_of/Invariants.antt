use Rattle.std.proofs.Common.{◌≡◌, ◌+◌, ◌++◌, drop, map}
use Rattle.toml.specs.View.{table_view, view}
use Rattle.ptpm_script.specs.Heads.{ends_in, end_value, ends_of}
use Rattle.ptpm_script.specs.Marks.{each}
use Rattle.ptpm_script.proofs.heads.ends_of.Given as goal

-- what is made, and what those ahead will make, is all
abbrev pub invariant-loop-index : goal.invariant-loop-index
invariant-loop-index l =
    map end_value l.ends.items ++ each ends_in (l.index + 1) (map view (drop l.index l.links)) ≡ ends_of (table_view l.file)
