use Rattle.std.proofs.Common.{arith}
use Rattle.ptpm_agent.proofs.Turns.{judged-repeat}
use Rattle.ptpm_agent.proofs.agent.Agent.judge.Goals as goal

pub returns-then-is_accepted_repeat-clause-verdict : goal.returns-then-is_accepted_repeat-clause-verdict
returns-then-is_accepted_repeat-clause-verdict g c = grind (arith, judged-repeat)
