use Rattle.ptpm_restarts.proofs.Again.{answered-again, stands-fewer}
use Rattle.ptpm_restarts.proofs.going_on.answered_after_restarts.Goals as goal

pub returns-clause-stands : goal.returns-clause-stands
returns-clause-stands c = stands-fewer

pub returns-clause-answered : goal.returns-clause-answered
returns-clause-answered c = answered-again
