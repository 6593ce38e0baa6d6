use Rattle.std.proofs.Common.{rules, ◌≡◌, Some, subst}
use Rattle.ptpm_host.specs.declared.clock.HostedClock.{HostedClock}
use Rattle.ptpm_c.specs.Sharing.{RefusesShared}
use Rattle.ptpm_c.proofs.sharing.ptpm_clock_handle_shared.Goals as goal

pub returns-clause-refused : goal.returns-clause-refused
returns-clause-refused c = λ d is.
    let lent : c.deref_mut.result.now ≡ d = search rules in
    let call = c.hand_in in
    subst (λ (x : HostedClock). RefusesShared x c.args.port c.args.datagram.now call.new.datagram c.args.answers.now call.result call.new.shared call.new.answers (Some call.new.clock)) lent
    call.ensures.refused
