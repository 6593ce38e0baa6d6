use Rattle.std.proofs.Common.{◌≡◌, ◌≢◌, ◌+◌, ◌∙◌, ap, arith, drop, refl, rules, sym, take, true}
use Rattle.std.proofs.lemmas.Grind.{common_steps}
use Rattle.ptpm_data.specs.Changed.{changed}
use Rattle.ptpm_agent.specs.declared.verdict.Verdict.TheVariants as verdicts
use Rattle.ptpm_host.specs.declared.clock.HostedClock.{HostedClock}
use Rattle.ptpm_host.specs.Clock.{clock_in, messages_in}
use Rattle.ptpm_device.specs.Saying.{said_value}
use Rattle.ptpm_host.specs.Queue.{queued}
use Rattle.ptpm_host.specs.SavingClock.{request_under_way}
use Rattle.ptpm_host.proofs.AskedCalls.{asks_called, led_to}
use Rattle.ptpm_host.proofs.SavingCalls.{first_turn, new_turn, or_new}
use Rattle.ptpm_host.proofs.saving_clock.SavingClock.take_first.Goals as goal

pub returns-then-ne-clause-called : goal.returns-then-ne-clause-called
returns-then-ne-clause-called c = λ b count as_batch.
    let own : c.deref_mut.result.now ≡ c.args.self.now.clock.value = first_of (search rules, cc) in
    let other : c.carry_out-handled.result.verdict ≢ verdicts.AnsweredNew = first_of (search rules, grind (arith, common_steps)) in
    led_to _ _ _ count
    (first_turn c.args.self.now c.deref_mut.result.now c.carry_out-handled.new.self c.args.port c.args.datagram.now (said_value c.args.said) c.args.of_owner
    c.carry_out-handled.result.verdict (messages_in (take c.carry_out-handled.result.count c.carry_out-handled.new.room)) own
    c.carry_out-handled.ensures.turned c.carry_out-handled.ensures.clock c.carry_out-handled.ensures.under_way b count as_batch.kept
    c.requires.ready c.requires.waits other)
    (asks_called c.args.self.now _ b count as_batch c.args.port c.args.datagram.now (said_value c.args.said) c.args.of_owner (record {
      clock = c.carry_out-handled.ensures.clock ∙ ap clock_in own;
      acting = refl;
      under_way = ap request_under_way (c.carry_out-handled.ensures.under_way ∙ ap (λ (h : HostedClock). h.under_way) own);
      imaged = λ is. is;
    }))

pub returns-then-ne-clause-members : goal.returns-then-ne-clause-members
returns-then-ne-clause-members c =
    let own : c.deref_mut.result.now ≡ c.args.self.now.clock.value = first_of (search rules, cc) in
    c.carry_out-handled.ensures.members ∙ ap (λ (h : HostedClock). changed h.agent.sets c.carry_out-handled.new.self.agent.sets) own

pub returns-clause-called : goal.returns-clause-called
returns-clause-called c = λ b count as_batch.
    let own : c.deref_mut.result.now ≡ c.args.self.now.clock.value = first_of (search rules, cc) in
    let new : c.carry_out-handled.result.verdict ≡ verdicts.AnsweredNew = first_of (search rules, grind (arith, common_steps)) in
    led_to _ _ _ count
    (new_turn c.args.self.now c.deref_mut.result.now c.carry_out-handled.new.self c.args.port c.args.datagram.now (said_value c.args.said) c.args.of_owner
    c.carry_out-handled.result.verdict (messages_in (take c.carry_out-handled.result.count c.carry_out-handled.new.room)) own
    c.carry_out-handled.ensures.turned c.carry_out-handled.ensures.clock c.carry_out-handled.ensures.under_way (queued c.take_over.new.self) true true c.take_over.ensures.queued refl
    (or_new c.args.self.now.is_changed c.carry_out-handled.result.verdict new) b count as_batch.kept c.requires.ready c.requires.waits new)
    (asks_called c.args.self.now _ b count as_batch c.args.port c.args.datagram.now (said_value c.args.said) c.args.of_owner (record {
      clock = c.carry_out-handled.ensures.clock ∙ ap clock_in own;
      acting = refl;
      under_way = ap request_under_way (c.carry_out-handled.ensures.under_way ∙ ap (λ (h : HostedClock). h.under_way) own);
      imaged = λ is. is;
    }))

pub returns-clause-members : goal.returns-clause-members
returns-clause-members c =
    let own : c.deref_mut.result.now ≡ c.args.self.now.clock.value = first_of (search rules, cc) in
    c.carry_out-handled.ensures.members ∙ ap (λ (h : HostedClock). changed h.agent.sets c.carry_out-handled.new.self.agent.sets) own

pub returns-clause-places : goal.returns-clause-places
returns-clause-places c =
    let waiting : 0 + c.carry_out-handled.result.count ≡ c.carry_out-handled.result.count = omega arith in
    ap (λ n. drop n c.take_over.new.room) waiting
    ∙ c.take_over.ensures.blanked.others
    ∙ c.carry_out-handled.ensures.places
    ∙ sym (ap (λ n. drop n c.args.room.now) waiting)
