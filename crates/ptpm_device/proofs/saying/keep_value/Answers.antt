use Rattle.std.proofs.Common.{arith, sym}
use Rattle.ptpm_agent.specs.Agent.{clock_of, state_of}
use Rattle.ptpm_device.proofs.Said.{value_known, value_lacked}
use Rattle.ptpm_device.proofs.saying.keep_value.Goals as goal

pub keep-requires-clause-known : goal.keep-requires-clause-known
keep-requires-clause-known g c =
    let known = value_known (clock_of g.T.ReplyTable.owner c.args.agent.now) (state_of g.T.ReplyTable.entries c.args.agent.now)
    c.args.datagram.now c.in-Some.get (sym c.in-Some.ensures.wanted) in
    grind arith

pub keep-requires-clause-lacked : goal.keep-requires-clause-lacked
keep-requires-clause-lacked g c =
    value_lacked (clock_of g.T.ReplyTable.owner c.args.agent.now) (state_of g.T.ReplyTable.entries c.args.agent.now)
    c.args.datagram.now c.in-Some.get (sym c.in-Some.ensures.wanted)
