use Rattle.std.proofs.Common.{◌≡◌, arith, refl, rules, sym, false, subst, Option, Some, None}
use Rattle.std.specs.Prelude.{is_some}
use Rattle.std.proofs.lemmas.Bool.{false≢true}
use Rattle.std.proofs.lemmas.Grind.{common_steps}
use Rattle.ptpm_agent.specs.Turn.{NumberedRequest}
use Rattle.ptpm_device.specs.Asking.{asked}
use Rattle.ptpm_saved.specs.Batching.{Handles}
use Rattle.ptpm_host.specs.declared.saving_clock.SavingClock.{SavingClock}
use Rattle.ptpm_host.specs.Clock.{clock_in, state_in}
use Rattle.ptpm_host.specs.Coming.{Undertakes}
use Rattle.ptpm_host.specs.SavingClock.{IsAsBatch, IsCalledAt, called_at}
use Rattle.ptpm_host.proofs.UndertakenCalls.{unasked_call}
use Rattle.ptpm_host.proofs.saving_clock.SavingClock.undertake.Goals as goal

nothing : (o : Option NumberedRequest) → is_some o ≡ false → o ≡ None
nothing None none = refl
nothing (Some r) none = absurd (false≢true (sym none))

pub returns-then-not-asks_change-clause-called : goal.returns-then-not-asks_change-clause-called
returns-then-not-asks_change-clause-called c = λ b count as_batch.
    let own : is_some (asked (clock_in c.args.self.now.clock.value).rows (clock_in c.args.self.now.clock.value).clock (state_in c.args.self.now.clock.value) c.args.datagram.now) ≡ false =
    first_of (search rules, cc, grind (arith, common_steps)) in
    let ready : c.args.self.now.ready ≡ 0 = first_of (search rules, grind (arith, common_steps)) in
    subst (λ (k : SavingClock). IsAsBatch k (called_at c.args.self.now b (Handles (Undertakes c.args.port c.args.datagram.now))) count)
    (sym c.ask.ensures.unchanged)
    (unasked_call c.args.self.now c.args.port c.args.datagram.now b count (nothing _ own) ready as_batch)

pub returns-clause-called : goal.returns-clause-called
returns-clause-called c =
    subst (λ (k : SavingClock). IsCalledAt k (Handles (Undertakes c.args.port c.args.datagram.now)) c.begin_change.new.self)
    c.ask.ensures.unchanged c.begin_change.ensures.called
