use Rattle.std.proofs.Common.{rules, ◌≡◌, Some, subst}
use Rattle.ptpm_host.specs.declared.clock.HostedClock.{HostedClock}
use Rattle.ptpm_c.specs.Relaying.{RefusesIds, RelaysIds}
use Rattle.ptpm_c.proofs.relay.ptpm_clock_relay.Goals as goal

pub returns-clause-relayed : goal.returns-clause-relayed
returns-clause-relayed c = λ d is.
    let lent : c.deref_mut.result.now ≡ d = search rules in
    subst (λ (x : HostedClock). RelaysIds x c.args.ids.now c.relay.result (Some c.relay.new.clock)) lent c.relay.ensures.relayed

pub returns-clause-refused : goal.returns-clause-refused
returns-clause-refused c = λ d is.
    let lent : c.deref_mut.result.now ≡ d = search rules in
    subst (λ (x : HostedClock). RefusesIds x c.args.ids.now c.relay.result (Some c.relay.new.clock)) lent c.relay.ensures.refused
