use Rattle.ptpm_host.proofs.ComingLaws.{sets_stay}
use Rattle.ptpm_host.proofs.clock.HostedClock.take_turn.Goals as goal

pub returns-clause-new_alone : goal.returns-clause-new_alone
returns-clause-new_alone c =
    sets_stay c.args.self.now (record c.args.self.now { agent = c.change_into-verdict.new.self }) c.args.port c.args.datagram.now c.change_into-verdict.result.0 _ c.change_into-verdict.ensures.turned
