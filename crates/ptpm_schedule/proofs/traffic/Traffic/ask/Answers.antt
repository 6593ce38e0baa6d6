use Rattle.std.proofs.Common.{[]}
use Rattle.ptpm_schedule.specs.Going.{asked_by}
use Rattle.ptpm_schedule.proofs.Going.{went_err, went_then}
use Rattle.ptpm_schedule.proofs.traffic.Traffic.ask.Goals as goal

pub returns : goal.returns
returns g c =
    let W = g.W.Write.contents in
    went_then c.ask_settled.result [] (asked_by c.args.event.now) c.args.world.now c.settle.new.world c.ask_settled.new.world
    (W c.args.out.now) (W c.settle.new.out) (W c.ask_settled.new.out)
    c.args.self.now.lines c.settle.new.self.lines c.ask_settled.new.self.lines
    c.in_ok-settle.ensures c.ask_settled.ensures

pub returns-in_err-settle : goal.returns-in_err-settle
returns-in_err-settle g c =
    let W = g.W.Write.contents in
    went_err c.from_residual.result c.in_err-settle.field-0.0 (asked_by c.args.event.now) c.args.world.now c.settle.new.world
    (W c.args.out.now) (W c.settle.new.out) c.args.self.now.lines c.settle.new.self.lines c.from_residual.ensures.1 c.in_err-settle.ensures
