use Rattle.std.proofs.Common.{◌≡◌, ◌∙◌, ap, refl, rules, subst, take, true, List, ℕ, None}
use Rattle.ptpm_agent.specs.Agent.{IsTurned}
use Rattle.ptpm_data.specs.Changed.{changed}
use Rattle.ptpm_device.specs.Saying.{turn_said}
use Rattle.ptpm_saved.specs.SavingClock.{Datagram}
use Rattle.ptpm_host.specs.declared.clock.HostedClock.{HostedClock}
use Rattle.ptpm_host.specs.Clock.{clock_in, messages_in, state_in}
use Rattle.ptpm_device.specs.Saying.{said_value}
use Rattle.ptpm_host.specs.SavingClock.{kept_of, request_under_way}
use Rattle.ptpm_host.proofs.UndertakenCalls.{decided_call}
use Rattle.ptpm_host.proofs.saving_clock.SavingClock.take_decided.Goals as goal

pub returns-clause-called : goal.returns-clause-called
returns-clause-called c = λ b count as_batch.
    let own : c.deref_mut.result.now ≡ c.args.self.now.clock.value = first_of (search rules, cc) in
    let turned : c.deref_mut-2.result.now ≡ c.carry_out-handled.new.self = first_of (search rules, cc) in
    let say = said_value c.args.said in
    let x : Datagram = (c.args.under_way.now.port, take c.args.under_way.now.size c.args.under_way.now.octets) in
    let out = messages_in (take c.carry_out-handled.result.count c.carry_out-handled.new.room) in
    let verdict = c.carry_out-handled.result.verdict in
    let next = state_in c.carry_out-handled.new.self in
    let turn : IsTurned (turn_said (clock_in c.args.self.now.clock.value).rows (clock_in c.args.self.now.clock.value).clock (state_in c.args.self.now.clock.value) say x.0 x.1) verdict out next =
    subst (λ (m : List ℕ). IsTurned (turn_said (clock_in c.args.self.now.clock.value).rows (clock_in c.args.self.now.clock.value).clock (state_in c.args.self.now.clock.value) say x.0 m) verdict out next)
    c.message.ensures.message
    (subst (λ (h : HostedClock). IsTurned (turn_said (clock_in h).rows (clock_in h).clock (state_in h) say x.0 c.message.result.now) verdict out next) own
    c.carry_out-handled.ensures.turned) in
    decided_call c.args.self.now _ x say out next b count (ap request_under_way c.requires.under_way)
    (λ i. record { sets = turn.sets_are i; entries = turn.entries_are i }) turn.outbox_is
    (ap clock_in turned ∙ c.carry_out-handled.ensures.clock ∙ ap clock_in own) refl (λ is. is)
    (λ i. record (kept_of c.args.self.now) {
      live = record { state = state_in (turned i); under_way = None };
      messages = c.take_over.ensures.queued i;
      waits = true;
      is_changed = true;
    })
    c.requires.ready as_batch

pub returns-clause-members : goal.returns-clause-members
returns-clause-members c =
    let own : c.deref_mut.result.now ≡ c.args.self.now.clock.value = first_of (search rules, cc) in
    let now : c.carry_out-handled.new.self.agent.sets ≡ c.deref_mut-2.result.now.agent.sets = first_of (search rules, cc) in
    c.carry_out-handled.ensures.members ∙ (λ i. changed (own i).agent.sets (now i))
