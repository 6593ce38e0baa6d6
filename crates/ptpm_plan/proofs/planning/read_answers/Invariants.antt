use Rattle.ptpm_commands.specs.Lines.{left_in}
use Rattle.ptpm_plan.proofs.Reading.{HasRead}
use Rattle.ptpm_plan.proofs.planning.read_answers.Given as goal

abbrev pub invariant-loop-number : goal.invariant-loop-number
invariant-loop-number g l =
    HasRead l.number (left_in g.R.Read.remaining l.initial.lines) (left_in g.R.Read.remaining l.lines) l.answers.list.items
