use Rattle.std.proofs.Common.{◌≤◌, arith, ap, length, rules}
use Rattle.std.proofs.lemmas.Bool.Decides.{nat_tests}
use Rattle.std.proofs.lemmas.Grind.{common_steps}
use Rattle.ptpm_data.specs.Members.{HasPort}
use Rattle.ptpm_host.specs.Clock.{clock_in, state_in}
use Rattle.ptpm_host.specs.MostSent.{most_sent}
use Rattle.ptpm_host.proofs.ComingLaws.{sets_stay}
use Rattle.ptpm_host.proofs.MostSent.{sends_no_more_alone}
use Rattle.ptpm_host.proofs.clock.HostedClock.handle.Goals as goal

pub returns-clause-new_alone : goal.returns-clause-new_alone
returns-clause-new_alone c =
    sets_stay c.args.self.now (record c.args.self.now { agent = c.handle_into-verdict.new.self }) c.args.port c.args.datagram.now c.handle_into-verdict.result _ c.handle_into-verdict.ensures.turned

pub handle_into-verdict-requires-clause-room : goal.handle_into-verdict-requires-clause-room
handle_into-verdict-requires-clause-room c =
    let port : HasPort c.args.port c.args.self.now.agent.sets = first_of (search rules, grind (arith, common_steps)) in
    let enough : most_sent (state_in c.args.self.now) ≤ length c.args.room.now = first_of (grind (arith, nat_tests), search rules) in
    omega (
      arith,
      sends_no_more_alone (clock_in c.args.self.now).clock (state_in c.args.self.now) c.args.port c.args.datagram.now c.sent_law.ensures.sized port,
      enough,
      ap (λ places. length places) c.new-places.ensures.room,
    )
