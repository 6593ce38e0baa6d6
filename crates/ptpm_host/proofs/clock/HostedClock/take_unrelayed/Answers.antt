use Rattle.std.proofs.Common.{[], ap, arith, subst, sym, take}
use Rattle.ptpm_agent.specs.Agent.{IsTurned}
use Rattle.ptpm_agent.specs.Turn.{Turned}
use Rattle.ptpm_device.specs.Saying as says
use Rattle.ptpm_device.specs.Saying.{turn_said}
use Rattle.ptpm_device.proofs.Steps.{is_relayed-alone, turn_said-silent}
use Rattle.ptpm_host.specs.Clock.{clock_in, messages_in, state_in}
use Rattle.ptpm_device.specs.Saying.{said_value}
use Rattle.ptpm_host.proofs.MostSent.{sends_no_more, sends_no_more_alone}
use Rattle.ptpm_host.proofs.clock.HostedClock.take_unrelayed.Goals as goal

-- a clock whose device says nothing takes its own turn
pub returns-in-Agrees-clause-turned : goal.returns-in-Agrees-clause-turned
returns-in-Agrees-clause-turned c =
    let silent = ap said_value c.in-Agrees.is in
    subst (λ (p : says.Say). IsTurned (turn_said [] (clock_in c.args.self.now).clock (state_in c.args.self.now) p c.args.port c.args.datagram.now)
    c.take_turn.result.verdict (messages_in (take c.take_turn.result.count c.take_turn.new.room)) (state_in c.take_turn.new.self)) (sym silent)
    (subst (λ (u : Turned). IsTurned u c.take_turn.result.verdict (messages_in (take c.take_turn.result.count c.take_turn.new.room))
    (state_in c.take_turn.new.self))
    (sym (turn_said-silent [] (clock_in c.args.self.now).clock (state_in c.args.self.now) c.args.port c.args.datagram.now (is_relayed-alone c.args.datagram.now)))
    c.take_turn.ensures.turned)

pub take_turn-requires-clause-room : goal.take_turn-requires-clause-room
take_turn-requires-clause-room c =
    omega (arith, sends_no_more_alone (clock_in c.args.self.now).clock (state_in c.args.self.now) c.args.port c.args.datagram.now c.sent_law.ensures.sized c.requires.port, c.requires.room)

pub take_objection-requires-clause-room : goal.take_objection-requires-clause-room
take_objection-requires-clause-room c =
    omega (arith, sends_no_more (record { clock = (clock_in c.args.self.now).clock; rows = [] }) (state_in c.args.self.now) (says.Objects c.in-Objects.error) c.args.port c.args.datagram.now c.sent_law.ensures.sized c.requires.port, c.requires.room)

pub take_value-requires-clause-room : goal.take_value-requires-clause-room
take_value-requires-clause-room c =
    omega (arith, sends_no_more (record { clock = (clock_in c.args.self.now).clock; rows = [] }) (state_in c.args.self.now) (says.Gives c.in-Gives.octets.now) c.args.port c.args.datagram.now c.sent_law.ensures.sized c.requires.port, c.requires.room)
