use Rattle.std.proofs.Common.{arith}
use Rattle.ptpm_agent.specs.Agent.{clock_of, state_of}
use Rattle.ptpm_agent.proofs.Turns.{as_foreseen, new_parts}
use Rattle.ptpm_agent.proofs.agent.Agent.accept_asked.Goals as goal

pub members_asked-members-requires : goal.members_asked-members-requires
members_asked-members-requires g c = grind (arith, new_parts)

pub returns-clause-members : goal.returns-clause-members
returns-clause-members g c = λ asks.
    as_foreseen (clock_of g.T.ReplyTable.owner c.args.self.now) (state_of g.T.ReplyTable.entries c.args.self.now)
    (state_of g.T.ReplyTable.entries c.accept.new.self) c.args.message.now c.args.rights c.members_asked-members.result
    (c.members_asked-members.ensures asks) c.requires.rights c.accept.ensures.accepted
