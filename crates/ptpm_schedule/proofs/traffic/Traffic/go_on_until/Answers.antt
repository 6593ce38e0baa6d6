use Rattle.std.proofs.Common.{[]}
use Rattle.ptpm_schedule.proofs.Going.{goes_both, stands_still, stopped_then, went_err}
use Rattle.ptpm_schedule.proofs.traffic.Traffic.go_on_until.Goals as goal

pub loop-init : goal.loop-init
loop-init g c = stands_still c.args.world.now (g.W.Write.contents c.args.out.now) c.args.self.now.lines

pub loop-preserved : goal.loop-preserved
loop-preserved g c =
    let W = g.W.Write.contents in
    goes_both [] [] c.args.world.now c.loop.world c.go_on.new.world (W c.args.out.now) (W c.loop.out) (W c.go_on.new.out)
    c.args.self.now.lines c.loop.self.lines c.go_on.new.self.lines c.loop.invariant c.in_ok-go_on.ensures

pub returns-in_err-go_on : goal.returns-in_err-go_on
returns-in_err-go_on g c =
    let W = g.W.Write.contents in
    let e = c.in_err-go_on.field-0.0 in
    went_err c.from_residual.result e [] c.args.world.now c.go_on.new.world (W c.args.out.now) (W c.go_on.new.out)
    c.args.self.now.lines c.go_on.new.self.lines c.from_residual.ensures.1
    (stopped_then [] c.args.world.now c.loop.world (W c.args.out.now) (W c.loop.out) (W c.go_on.new.out)
    c.args.self.now.lines c.loop.self.lines c.go_on.new.self.lines e c.loop.invariant c.in_err-go_on.ensures)
