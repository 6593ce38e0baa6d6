use Rattle.ptpm_plan.proofs.Printing.{cut_front, uncut}
use Rattle.ptpm_plan.proofs.report.cut.Goals as goal

pub returns-clause-none : goal.returns-clause-none
returns-clause-none c = uncut c.args.text.now c.split_once.result c.split_once.ensures.cases

pub returns-clause-some : goal.returns-clause-some
returns-clause-some c = cut_front c.args.text.now c.split_once.result c.split_once.ensures.cases
