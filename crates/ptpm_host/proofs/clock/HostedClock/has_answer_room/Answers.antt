use Rattle.std.proofs.Common.{◌≤◌, arith}
use Rattle.std.proofs.lemmas.Bool.Decides.{nat_tests}
use Rattle.ptpm_host.specs.Clock.{state_in}
use Rattle.ptpm_host.specs.Answers.{most_replied}
use Rattle.ptpm_host.proofs.MostSent.{replied_few}
use Rattle.ptpm_host.proofs.clock.HostedClock.has_answer_room.Goals as goal

pub returns-then-places-replies_kept : goal.returns-then-places-replies_kept
returns-then-places-replies_kept c =
    let few : most_replied (state_in c.args.self.now) ≤ c.args.places =
    omega (arith, replied_few (state_in c.args.self.now) c.args.self.now.agent.table.answers c.sent_law.ensures.few, c.replies_kept.ensures, c.if-places-replies_kept.true) in
    grind (arith, nat_tests)
