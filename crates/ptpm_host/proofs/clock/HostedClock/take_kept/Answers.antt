use Rattle.std.proofs.Common.{subst, take}
use Rattle.ptpm_agent.specs.Agent.{IsTurned}
use Rattle.ptpm_agent.specs.Turn.{turn}
use Rattle.ptpm_host.specs.Clock.{clock_in, messages_in, state_in}
use Rattle.ptpm_host.proofs.clock.HostedClock.take_kept.Goals as goal

pub returns-clause-turned : goal.returns-clause-turned
returns-clause-turned c =
    let turned = c.take_turn-handled.ensures.turned in
    subst (λ w. IsTurned (turn (clock_in c.args.self.now).clock (state_in c.args.self.now) c.args.port c.args.datagram.now) w
    (messages_in (take c.take_turn-handled.result.count c.take_turn-handled.new.room)) (state_in c.take_turn-handled.new.self)) turned.verdict_is turned
