use Rattle.ptpm_agent.proofs.Entries.{kept-latest, kept-others, turn-carried, turns-carried}
use Rattle.ptpm_agent.proofs.laws.requests_of_turns.Goals as goal

pub returns-clause-one : goal.returns-clause-one
returns-clause-one c = turn-carried

pub returns-clause-each : goal.returns-clause-each
returns-clause-each c = turns-carried

pub returns-clause-latest : goal.returns-clause-latest
returns-clause-latest c = kept-latest

pub returns-clause-others : goal.returns-clause-others
returns-clause-others c = λ clock s rs m. kept-others clock s m rs
