-- The rows that the clock lends are its own.
use Rattle.std.proofs.Common.{List, subst}
use Rattle.ptpm_agent.specs.declared.verdict.Verdict.TheVariants as verdicts
use Rattle.ptpm_agent.specs.Agent.{IsTurned}
use Rattle.ptpm_device.specs.declared.relayed.RelayedId.{RelayedId}
use Rattle.ptpm_device.specs.Saying.{said_value, turn_said}
use Rattle.ptpm_host.specs.Clock.{clock_in, state_in}
use Rattle.ptpm_host.proofs.clock.HostedClock.keep_relayed.Goals as goal

pub returns-then-not-is_empty-clause-turned : goal.returns-then-not-is_empty-clause-turned
returns-then-not-is_empty-clause-turned c = λ kept ingress w out next turned.
    subst (λ (rows : List RelayedId). IsTurned (turn_said rows (clock_in c.args.self.now).clock (state_in c.args.self.now) (said_value c.args.said)
    ingress c.args.datagram.now) verdicts.AnsweredNew out next)
    c.as_slice-rows.ensures.value (c.keep_relayed.ensures.turned kept ingress w out next turned)
