use Rattle.std.proofs.Common.{List, ap, arith, length, ℕ}
use Rattle.std.proofs.lemmas.List.{length-append}
use Rattle.ptpm_agent.specs.Addressing.{heard_of}
use Rattle.ptpm_agent.specs.Agent.{state_of}
use Rattle.ptpm_agent.specs.Forwarding.{forwarded}
use Rattle.ptpm_agent.specs.Turn.{reply_by, reply_messages}
use Rattle.ptpm_agent.proofs.agent.Agent.answer.Goals as goal

pub forward-requires-clause-room : goal.forward-requires-clause-room
forward-requires-clause-room g c =
    let clock = g.T.ReplyTable.owner c.args.self.now.table in
    let replies = reply_messages clock c.args.ingress (heard_of c.args.message.now) (reply_by c.args.verdict clock (state_of g.T.ReplyTable.entries c.args.self.now) c.args.message.now) in
    omega (arith, length-append (forwarded clock.identity c.args.ingress c.args.self.now.sets c.args.datagram.now) replies, c.requires.room)

pub reply-requires-clause-room : goal.reply-requires-clause-room
reply-requires-clause-room g c =
    let clock = g.T.ReplyTable.owner c.args.self.now.table in
    let replies = reply_messages clock c.args.ingress (heard_of c.args.message.now) (reply_by c.args.verdict clock (state_of g.T.ReplyTable.entries c.args.self.now) c.args.message.now) in
    let sent = ap (λ (xs : List (ℕ × List ℕ)). length xs) c.forward.ensures.copies in
    let as_many = g.met.O.Outgoing.as_many c.args.out.now c.forward.new.out c.forward.ensures.grown in
    omega (arith, sent, as_many, length-append (forwarded clock.identity c.args.ingress c.args.self.now.sets c.args.datagram.now) replies, c.requires.room)

pub returns-clause-grown : goal.returns-clause-grown
returns-clause-grown g c =
    g.met.O.Outgoing.grown_twice c.args.out.now c.forward.new.out c.reply.new.out c.forward.ensures.grown c.reply.ensures.grown
