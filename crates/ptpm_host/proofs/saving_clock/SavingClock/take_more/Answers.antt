use Rattle.std.proofs.Common.{◌≡◌, ◌∙◌, ap, refl, rules, take}
use Rattle.ptpm_data.specs.Changed.{changed}
use Rattle.ptpm_host.specs.declared.clock.HostedClock.{HostedClock}
use Rattle.ptpm_host.specs.Clock.{clock_in, messages_in}
use Rattle.ptpm_device.specs.Saying.{said_value}
use Rattle.ptpm_host.specs.Queue.{queued}
use Rattle.ptpm_host.specs.SavingClock.{request_under_way}
use Rattle.ptpm_host.proofs.AskedCalls.{asks_called, led_to}
use Rattle.ptpm_host.proofs.SavingCalls.{more_turn}
use Rattle.ptpm_host.proofs.saving_clock.SavingClock.take_more.Goals as goal

pub returns-clause-called : goal.returns-clause-called
returns-clause-called c = λ b count as_batch.
    let own : c.deref_mut.result.now ≡ c.args.self.now.clock.value = first_of (search rules, cc) in
    led_to _ _ _ count
    (more_turn c.args.self.now c.deref_mut.result.now c.carry_out-handled.new.self c.args.port c.args.datagram.now (said_value c.args.said) c.args.of_owner
    c.carry_out-handled.result.verdict (messages_in (take c.carry_out-handled.result.count c.carry_out-handled.new.room)) own
    c.carry_out-handled.ensures.turned c.carry_out-handled.ensures.clock c.carry_out-handled.ensures.under_way (queued c.take_over.new.self) c.args.self.now.waits c.is_changed_by-self.result
    c.take_over.ensures.queued c.requires.waits c.is_changed_by-self.ensures b count as_batch.kept c.requires.ready c.requires.waits c.requires.held)
    (asks_called c.args.self.now _ b count as_batch c.args.port c.args.datagram.now (said_value c.args.said) c.args.of_owner (record {
      clock = c.carry_out-handled.ensures.clock ∙ ap clock_in own;
      acting = refl;
      under_way = ap request_under_way (c.carry_out-handled.ensures.under_way ∙ ap (λ (h : HostedClock). h.under_way) own);
      imaged = λ is. is;
    }))

pub returns-clause-members : goal.returns-clause-members
returns-clause-members c =
    let own : c.deref_mut.result.now ≡ c.args.self.now.clock.value = first_of (search rules, cc) in
    c.carry_out-handled.ensures.members ∙ ap (λ (h : HostedClock). changed h.agent.sets c.carry_out-handled.new.self.agent.sets) own
