use Rattle.ptpm_restarts.proofs.AtOnce.{starts-in, starts-observed, starts-with}
use Rattle.ptpm_restarts.proofs.going_on.started_again.Goals as goal

pub returns-clause-domain : goal.returns-clause-domain
returns-clause-domain c = starts-in

pub returns-clause-attempts : goal.returns-clause-attempts
returns-clause-attempts c = starts-with

pub returns-clause-observed : goal.returns-clause-observed
returns-clause-observed c = starts-observed
