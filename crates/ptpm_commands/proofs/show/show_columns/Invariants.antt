use Rattle.std.proofs.Common.{flat_map, map, take}
use Rattle.std.specs.Io.KnownBytes.{Appends}
use Rattle.ptpm_commands.specs.Show.{column_line}
use Rattle.ptpm_commands.proofs.show.show_columns.Given as goal

-- the columns so far are printed
abbrev pub invariant-loop-column : goal.invariant-loop-column
invariant-loop-column g l =
    Appends (g.O.Write.contents l.initial.out) (g.O.Write.contents l.out) (flat_map column_line (map (λ c. c.now) (take l.column-index l.columns)))
