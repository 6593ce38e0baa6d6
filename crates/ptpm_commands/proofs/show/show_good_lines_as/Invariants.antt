use Rattle.ptpm_commands.specs.Lines.{left_in}
use Rattle.ptpm_commands.proofs.TakenLemmas.{PassedSo}
use Rattle.ptpm_commands.proofs.show.show_good_lines_as.Given as goal

-- the messages of the lines so far are shown
abbrev pub invariant-loop-number : goal.invariant-loop-number
invariant-loop-number g l =
    PassedSo l.form l.number (left_in g.R.Read.remaining l.initial.lines) (left_in g.R.Read.remaining l.lines)
    (g.O.Write.contents l.initial.out) (g.O.Write.contents l.out)
