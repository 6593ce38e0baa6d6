use Rattle.ptpm_agent.proofs.Alike.{alike_if_err}
use Rattle.std.proofs.Common.{refl}
use Rattle.ptpm_agent.proofs.agent.Agent.observe.Goals as goal

pub returns-clause-unchanged : goal.returns-clause-unchanged
returns-clause-unchanged g c = alike_if_err c.observe.result _ _ c.observe.ensures.unchanged refl
