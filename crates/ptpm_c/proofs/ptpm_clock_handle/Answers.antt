use Rattle.std.proofs.Common.{rules, ◌≡◌, Some, subst}
use Rattle.ptpm_host.specs.declared.clock.HostedClock.{HostedClock}
use Rattle.ptpm_c.specs.Turned.{RefusesTurn}
use Rattle.ptpm_c.proofs.ptpm_clock_handle.Goals as goal

pub returns-clause-refused : goal.returns-clause-refused
returns-clause-refused c = λ d is.
    let lent : c.deref_mut.result.now ≡ d = search rules in
    let call = c.hand_in in
    subst (λ (x : HostedClock). RefusesTurn x c.args.port c.args.sent.now call.result call.new.count call.new.sent (Some call.new.clock)) lent
    call.ensures.refused
