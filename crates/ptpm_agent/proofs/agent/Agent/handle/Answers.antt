use Rattle.std.proofs.Common.{arith}
use Rattle.ptpm_table.specs.declared.outbox.TheConstants.{OUTBOX_MESSAGES}
use Rattle.ptpm_agent.specs.Agent.{state_of}
use Rattle.ptpm_agent.proofs.MostSent.{turn_few}
use Rattle.ptpm_agent.proofs.agent.Agent.handle.Goals as goal

pub handle_into-requires-clause-room : goal.handle_into-requires-clause-room
handle_into-requires-clause-room g c =
    let sized = c.data_sets_law.ensures.sized in
    turn_few (g.T.ReplyTable.owner c.args.self.now.table) (state_of g.T.ReplyTable.entries c.args.self.now) c.args.ingress c.args.datagram.now OUTBOX_MESSAGES
    sized c.requires.port (omega (arith, c.args.self.now.room, c.requires.small)) (λ k e inside. omega (arith, c.few_answers.ensures k e inside, c.requires.small))
