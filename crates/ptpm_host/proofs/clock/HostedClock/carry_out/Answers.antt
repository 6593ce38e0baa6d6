use Rattle.std.proofs.Common.{◌∙◌, ap, length, sym, true, false}
use Rattle.ptpm_data.specs.Changed.{changed}
use Rattle.ptpm_data.specs.Members.{DataSetsValue}
use Rattle.ptpm_data.proofs.Differing.{nothing_changed}
use Rattle.ptpm_agent.specs.Turn.{State}
use Rattle.ptpm_device.specs.Saying as says
use Rattle.ptpm_saved.specs.SavingClock.{is_new}
use Rattle.ptpm_host.specs.Clock.{clock_in, state_in}
use Rattle.ptpm_device.specs.Saying.{said_value}
use Rattle.ptpm_host.specs.MostSent.{most_sent}
use Rattle.ptpm_host.proofs.ComingLaws.{not_new, turn_of-ports, turn_of-unchanged}
use Rattle.ptpm_host.proofs.MostSent.{sends_no_more, sends_no_more_here}
use Rattle.ptpm_host.proofs.Places.{sent_most}
use Rattle.ptpm_host.proofs.clock.HostedClock.carry_out.Goals as goal

pub returns-then-of_owner-clause-most : goal.returns-then-of_owner-clause-most
returns-then-of_owner-clause-most c =
    sent_most c.take_owner_turn.result.count (most_sent (state_in c.args.self.now)) c.take_owner_turn.new.room _ c.take_owner_turn.ensures.count
    c.take_owner_turn.ensures.turned.outbox_is
    (sends_no_more_here (clock_in c.args.self.now).clock (state_in c.args.self.now) c.args.port c.args.datagram.now c.sent_law.ensures.sized c.requires.port)

pub returns-then-of_owner-clause-new_alone : goal.returns-then-of_owner-clause-new_alone
returns-then-of_owner-clause-new_alone c = λ other.
    c.take_owner_turn.ensures.turned.sets_are
    ∙ ap (λ (s : State). s.sets) (turn_of-unchanged (clock_in c.args.self.now) (state_in c.args.self.now) c.args.port c.args.datagram.now says.Agrees true
    (ap is_new (sym c.take_owner_turn.ensures.turned.verdict_is) ∙ not_new c.take_owner_turn.result.verdict other))

pub returns-then-of_owner-clause-ports : goal.returns-then-of_owner-clause-ports
returns-then-of_owner-clause-ports c =
    ap (λ (d : DataSetsValue). length d.ports) c.take_owner_turn.ensures.turned.sets_are
    ∙ turn_of-ports (clock_in c.args.self.now) (state_in c.args.self.now) c.args.port c.args.datagram.now says.Agrees true

pub returns-else-of_owner-clause-most : goal.returns-else-of_owner-clause-most
returns-else-of_owner-clause-most c =
    sent_most c.take_said.result.count (most_sent (state_in c.args.self.now)) c.take_said.new.room _ c.take_said.ensures.count
    c.take_said.ensures.turned.outbox_is
    (sends_no_more (clock_in c.args.self.now) (state_in c.args.self.now) (said_value c.args.said) c.args.port c.args.datagram.now c.sent_law.ensures.sized
    c.requires.port)

pub returns-else-of_owner-clause-ports : goal.returns-else-of_owner-clause-ports
returns-else-of_owner-clause-ports c =
    ap (λ (d : DataSetsValue). length d.ports) c.take_said.ensures.turned.sets_are
    ∙ turn_of-ports (clock_in c.args.self.now) (state_in c.args.self.now) c.args.port c.args.datagram.now (said_value c.args.said) false

pub returns-then-of_owner-clause-members_alone : goal.returns-then-of_owner-clause-members_alone
returns-then-of_owner-clause-members_alone c = λ other.
    let still = c.take_owner_turn.ensures.turned.sets_are
    ∙ ap (λ (s : State). s.sets) (turn_of-unchanged (clock_in c.args.self.now) (state_in c.args.self.now) c.args.port c.args.datagram.now says.Agrees true
    (ap is_new (sym c.take_owner_turn.ensures.turned.verdict_is) ∙ not_new c.take_owner_turn.result.verdict other)) in
    c.take_owner_turn.ensures.members ∙ ap (λ (d : DataSetsValue). changed c.args.self.now.agent.sets d) still
    ∙ sym (nothing_changed c.args.self.now.agent.sets)

pub returns-else-of_owner-clause-members_alone : goal.returns-else-of_owner-clause-members_alone
returns-else-of_owner-clause-members_alone c = λ other.
    c.take_said.ensures.members ∙ ap (λ (d : DataSetsValue). changed c.args.self.now.agent.sets d) (c.take_said.ensures.new_alone other)
    ∙ sym (nothing_changed c.args.self.now.agent.sets)
