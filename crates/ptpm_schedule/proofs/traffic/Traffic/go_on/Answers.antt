use Rattle.ptpm_schedule.proofs.Going.{stands_still}
use Rattle.ptpm_schedule.proofs.traffic.Traffic.go_on.Goals as goal

pub returns : goal.returns
returns g c = stands_still c.args.world.now (g.W.Write.contents c.args.out.now) c.args.self.now.lines
