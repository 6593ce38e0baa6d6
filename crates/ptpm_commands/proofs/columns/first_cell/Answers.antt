use Rattle.ptpm_commands.proofs.CellLemmas.{first_tab, no_tab}
use Rattle.ptpm_commands.proofs.columns.first_cell.Goals as goal

pub returns-clause-none : goal.returns-clause-none
returns-clause-none c = no_tab c.args.line.now c.split_once.result c.split_once.ensures.cases

pub returns-clause-some : goal.returns-clause-some
returns-clause-some c = first_tab c.args.line.now c.split_once.result c.split_once.ensures.cases
