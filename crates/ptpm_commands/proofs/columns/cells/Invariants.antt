use Rattle.std.proofs.Common.{◌≡◌, ◌++◌, IsUtf8, length, map}
use Rattle.ptpm_commands.specs.Columns.{cells}
use Rattle.ptpm_commands.proofs.columns.cells.Given as goal

-- the cells so far, and those of the rest, are the line's
abbrev pub invariant-loop-column : goal.invariant-loop-column
invariant-loop-column l = (map (λ c. c.now) l.columns.items ++ cells l.rest ≡ cells l.fn.line) × IsUtf8 l.rest

abbrev pub decreases-loop-column : goal.decreases-loop-column
decreases-loop-column l = length l.rest
