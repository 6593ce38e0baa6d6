use Rattle.std.proofs.Common.{arith}
use Rattle.std.proofs.lemmas.List.{length-map}
use Rattle.ptpm_agent.proofs.Turns.{forwarded-on, forwarded-not}
use Rattle.ptpm_agent.proofs.agent.Agent.forward.Goals as goal

pub returns-then-passes_on-clause-copies : goal.returns-then-passes_on-clause-copies
returns-then-passes_on-clause-copies g c = grind (arith, forwarded-on)

pub returns-else-passes_on-clause-copies : goal.returns-else-passes_on-clause-copies
returns-else-passes_on-clause-copies g c = grind (arith, forwarded-not)

pub send_on-requires-clause-room : goal.send_on-requires-clause-room
send_on-requires-clause-room g c = grind (arith, forwarded-on, length-map)
