use Rattle.ptpm_schedule.proofs.Going.{stands_still}
use Rattle.ptpm_schedule.proofs.traffic.Traffic.settle.Goals as goal

pub returns-in-None : goal.returns-in-None
returns-in-None g c = stands_still c.args.world.now (g.W.Write.contents c.args.out.now) c.args.self.now.lines
