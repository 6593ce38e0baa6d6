use Rattle.std.proofs.Common.{◌≤◌, arith}
use Rattle.std.proofs.lemmas.Bool.Decides.{nat_tests}
use Rattle.ptpm_host.specs.Clock.{state_in}
use Rattle.ptpm_host.specs.MostSent.{most_sent}
use Rattle.ptpm_host.proofs.MostSent.{most_few}
use Rattle.ptpm_host.proofs.clock.HostedClock.has_room.Goals as goal

pub returns-then-places-most_kept : goal.returns-then-places-most_kept
returns-then-places-most_kept c =
    let few : most_sent (state_in c.args.self.now) ≤ c.args.places =
    omega (arith, most_few (state_in c.args.self.now) c.args.self.now.agent.table.answers c.sent_law.ensures.few, c.most_kept.ensures, c.if-places-most_kept.true) in
    grind (arith, nat_tests)
