use Rattle.std.proofs.Common.{rules, ◌≡◌, ◌==◌, Some, refl, subst}
use Rattle.ptpm_host.specs.declared.clock.HostedClock.{HostedClock}
use Rattle.ptpm_host.specs.declared.saving_clock.SavingClock.{SavingClock}
use Rattle.ptpm_c.specs.Batching.{RefusesCall, ReportsCall, TakesCall}
use Rattle.ptpm_c.specs.Said.{RefusesSaid, ReportsSaid, TakesSaid}
use Rattle.ptpm_c.proofs.HandedOut.{unchanged_places}
use Rattle.ptpm_c.proofs.device.ptpm_clock_take.Goals as goal

pub returns-in-Clock-clause-turned : goal.returns-in-Clock-clause-turned
returns-in-Clock-clause-turned c = λ d is.
    let lent : c.deref_mut.result.now ≡ d = search rules in
    let call = c.hand_in in
    subst (λ (x : HostedClock). TakesSaid x c.args.port c.args.datagram.now c.args.say.now (c.args.of_owner == 1) c.args.sent.now call.result call.new.taken call.new.sent (Some call.new.clock)) lent
    call.ensures.taken

pub returns-in-Clock-clause-changed : goal.returns-in-Clock-clause-changed
returns-in-Clock-clause-changed c = λ d is.
    let lent : c.deref_mut.result.now ≡ d = search rules in
    let call = c.hand_in in
    subst (λ (x : HostedClock). ReportsSaid x c.args.port c.args.say.now c.args.sent.now call.new.taken (Some call.new.clock)) lent
    call.ensures.changed

pub returns-in-Clock-clause-refused : goal.returns-in-Clock-clause-refused
returns-in-Clock-clause-refused c = λ d is.
    let lent : c.deref_mut.result.now ≡ d = search rules in
    let call = c.hand_in in
    subst (λ (x : HostedClock). RefusesSaid x c.args.port c.args.say.now c.args.sent.now call.result call.new.taken call.new.sent (Some call.new.clock)) lent
    call.ensures.refused

pub returns-in-SavingClock-clause-called : goal.returns-in-SavingClock-clause-called
returns-in-SavingClock-clause-called c = λ w is.
    let lent : c.deref_mut-in-SavingClock.result.now ≡ w = search rules in
    let call = c.hand_in-in-SavingClock in
    subst (λ (x : SavingClock). TakesCall x c.args.port c.args.datagram.now c.args.say.now (c.args.of_owner == 1) c.args.sent.now call.result call.new.taken call.new.sent (Some call.new.clock)) lent
    call.ensures.taken

pub returns-in-SavingClock-clause-called_changed : goal.returns-in-SavingClock-clause-called_changed
returns-in-SavingClock-clause-called_changed c = λ w is.
    let lent : c.deref_mut-in-SavingClock.result.now ≡ w = search rules in
    let call = c.hand_in-in-SavingClock in
    subst (λ (x : SavingClock). ReportsCall x c.args.port c.args.datagram.now c.args.say.now (c.args.of_owner == 1) c.args.sent.now call.new.taken (Some call.new.clock)) lent
    call.ensures.changed

pub returns-in-SavingClock-clause-called_refused : goal.returns-in-SavingClock-clause-called_refused
returns-in-SavingClock-clause-called_refused c = λ w is.
    let lent : c.deref_mut-in-SavingClock.result.now ≡ w = search rules in
    let call = c.hand_in-in-SavingClock in
    subst (λ (x : SavingClock). RefusesCall x c.args.port c.args.datagram.now c.args.say.now (c.args.of_owner == 1) c.args.sent.now call.result call.new.taken call.new.sent (Some call.new.clock)) lent
    call.ensures.refused

pub returns-in_default-clause-places : goal.returns-in_default-clause-places
returns-in_default-clause-places c = unchanged_places _ _ _ c.nothing.ensures refl

pub returns-in_default-hosted-clause-places : goal.returns-in_default-hosted-clause-places
returns-in_default-hosted-clause-places c = unchanged_places _ _ _ c.nothing.ensures refl
