use Rattle.ptpm_journal.specs.Order.{AreDone}
use Rattle.ptpm_journal.proofs.order.may_begin.Given as goal

abbrev pub invariant-loop-earlier : goal.invariant-loop-earlier
invariant-loop-earlier l = AreDone l.steps l.marks l.place l.earlier
