use Rattle.std.proofs.Common.{take, flat_map}
use Rattle.std.specs.Io.KnownBytes.{Appends}
use Rattle.ptpm_commands.specs.Ids.{id_line}
use Rattle.ptpm_commands.proofs.ids.ids.Given as goal

-- the rows so far are printed
abbrev pub invariant-loop-id : goal.invariant-loop-id
invariant-loop-id g l =
    Appends (g.O.Write.contents l.initial.out) (g.O.Write.contents l.out) (flat_map id_line (take l.id-index l.id-items))
