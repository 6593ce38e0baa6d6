use Rattle.ptpm_agent.proofs.AtMostOnce.{applied_once-ports}
use Rattle.ptpm_agent.proofs.Turns.{turn-ports}
use Rattle.ptpm_agent.proofs.laws.ports_stay.Goals as goal

pub returns-clause-in_turn : goal.returns-clause-in_turn
returns-clause-in_turn c = turn-ports

pub returns-clause-accepted : goal.returns-clause-accepted
returns-clause-accepted c = applied_once-ports
