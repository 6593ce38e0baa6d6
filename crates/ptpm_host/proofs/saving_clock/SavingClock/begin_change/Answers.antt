use Rattle.std.proofs.Common.{◌≡◌, ◌∙◌, ap, refl, rules, true, Option, Some}
use Rattle.ptpm_codec.specs.Layout.{message_octets}
use Rattle.ptpm_saved.specs.SavingClock.{Datagram}
use Rattle.ptpm_host.specs.UnderWay.{may_be_under_way}
use Rattle.ptpm_host.specs.Clock.{clock_in, state_in}
use Rattle.ptpm_host.specs.SavingClock.{kept_of, request_under_way}
use Rattle.ptpm_host.proofs.UnderWay.{asked_may_be}
use Rattle.ptpm_host.proofs.UndertakenCalls.{asked_well_formed, undertaken_call}
use Rattle.ptpm_host.proofs.saving_clock.SavingClock.begin_change.Goals as goal

pub first_message-requires : goal.first_message-requires
first_message-requires c =
    asked_well_formed (clock_in c.args.self.now.clock.value) (state_in c.args.self.now.clock.value) c.args.datagram.now c.requires.asks

pub of-requires : goal.of-requires
of-requires c =
    ap may_be_under_way c.first_message.ensures
    ∙ asked_may_be (clock_in c.args.self.now.clock.value) (state_in c.args.self.now.clock.value) c.args.datagram.now c.requires.asks

pub returns-clause-called : goal.returns-clause-called
returns-clause-called c = λ b count as_batch.
    let own : c.deref_mut.result.now ≡ c.args.self.now.clock.value = first_of (search rules, cc) in
    let request : ◌≡◌ {A = Option Datagram} (request_under_way (Some c.of.result)) (Some (c.args.port, message_octets c.args.datagram.now)) =
    (λ i. Some (c.of.ensures.port i, (c.of.ensures.message ∙ c.first_message.ensures) i)) in
    undertaken_call c.args.self.now _ c.args.port c.args.datagram.now b count c.requires.asks (ap request_under_way c.requires.nothing)
    (ap clock_in own) refl (λ is. is) request
    (λ i. record (kept_of c.args.self.now) { live = record { state = state_in (own i); under_way = request i }; waits = true; is_changed = true })
    as_batch
