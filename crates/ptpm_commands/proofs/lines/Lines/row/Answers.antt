use Rattle.ptpm_commands.proofs.CellLemmas.{row-fails, row-ok}
use Rattle.ptpm_commands.proofs.lines.Lines.row.Goals as goal

pub returns-in-Ok-clause-row : goal.returns-in-Ok-clause-row
returns-in-Ok-clause-row g c = row-ok _ _ _ _ _ c.in_ok-line.ensures.text c.in_ok-line.ensures.utf8 c.in-Ok.ensures.ok

pub returns-in-Err-clause-fault : goal.returns-in-Err-clause-fault
returns-in-Err-clause-fault g c = row-fails _ _ _ _ _ c.in_ok-line.ensures.text c.in_ok-line.ensures.utf8 c.in-Err.ensures.err c.at_line.ensures
