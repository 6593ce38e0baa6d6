use Rattle.std.proofs.Common.{rules, ◌≡◌, Some, subst}
use Rattle.ptpm_host.specs.declared.saving_clock.SavingClock.{SavingClock}
use Rattle.ptpm_c.specs.Batching.{RefusesUndertaking}
use Rattle.ptpm_c.proofs.device.ptpm_clock_undertake.Goals as goal

pub returns-clause-refused : goal.returns-clause-refused
returns-clause-refused c = λ w is.
    let lent : c.deref_mut.result.now ≡ w = search rules in
    let call = c.undertake in
    subst (λ (x : SavingClock). RefusesUndertaking x c.args.port c.args.datagram.now call.result call.new.asked (Some call.new.clock)) lent
    call.ensures.refused
