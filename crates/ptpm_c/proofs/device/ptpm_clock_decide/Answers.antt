use Rattle.std.proofs.Common.{rules, ◌≡◌, Some, refl, subst}
use Rattle.ptpm_host.specs.declared.saving_clock.SavingClock.{SavingClock}
use Rattle.ptpm_c.specs.Batching.{RefusesDecision}
use Rattle.ptpm_c.proofs.HandedOut.{unchanged_places}
use Rattle.ptpm_c.proofs.device.ptpm_clock_decide.Goals as goal

pub returns-clause-refused : goal.returns-clause-refused
returns-clause-refused c = λ w is.
    let lent : c.deref_mut.result.now ≡ w = search rules in
    let call = c.decide in
    subst (λ (x : SavingClock). RefusesDecision x c.args.say.now c.args.sent.now call.result call.new.taken call.new.sent (Some call.new.clock)) lent
    call.ensures.refused

pub returns-in_default-clause-places : goal.returns-in_default-clause-places
returns-in_default-clause-places c = unchanged_places _ _ _ c.nothing.ensures refl

pub returns-in_default-hosted-clause-places : goal.returns-in_default-hosted-clause-places
returns-in_default-hosted-clause-places c = unchanged_places _ _ _ c.nothing.ensures refl
