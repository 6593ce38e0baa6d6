use Rattle.std.proofs.Common.{ap, subst, List, take, arith}
use Rattle.std.proofs.lemmas.List.{take_all}
use Rattle.ptpm_schedule.specs.Going.{Goes, asked_by, asked_in}
use Rattle.ptpm_schedule.proofs.Going.{asked_more, goes_both, stands_still, stopped_then, went_err, went_on}
use Rattle.ptpm_schedule.proofs.scheduling.play.Goals as goal
use Rattle.ptpm_script.specs.declared.event.Event.{Event}

pub loop-line-init : goal.loop-line-init
loop-line-init g c = stands_still c.args.world.now (g.W.Write.contents c.args.out.now) c.args.traffic.now.lines

pub loop-line-preserved : goal.loop-line-preserved
loop-line-preserved g c =
    let W = g.W.Write.contents in
    let done = asked_in (take c.loop-line.line-index c.args.lines.now) in
    let line = c.line-item.result in
    subst (λ (es : List Event). Goes es c.args.world.now c.ask.new.world (W c.args.out.now) (W c.ask.new.out) c.args.traffic.now.lines c.ask.new.self.lines)
    (asked_more c.args.lines.now c.loop-line.line-index line c.line-item.is c.loop-line-test.true)
    (goes_both done (asked_by line.event) c.args.world.now c.loop-line.world c.ask.new.world (W c.args.out.now) (W c.loop-line.out) (W c.ask.new.out)
    c.args.traffic.now.lines c.loop-line.traffic.lines c.ask.new.self.lines c.loop-line.invariant c.in_ok-why.ensures)

pub returns : goal.returns
returns g c =
    let W = g.W.Write.contents in
    went_on c.finish.result (asked_in (take c.loop-line.line-index c.args.lines.now)) (asked_in c.args.lines.now)
    c.args.world.now c.loop-line.world c.finish.new.world (W c.args.out.now) (W c.loop-line.out) (W c.finish.new.out)
    c.args.traffic.now.lines c.loop-line.traffic.lines c.finish.new.self.lines
    (ap asked_in (take_all c.loop-line.line-index c.args.lines.now (omega arith)))
    c.loop-line.invariant c.finish.ensures

pub returns-in_err-why : goal.returns-in_err-why
returns-in_err-why g c =
    let W = g.W.Write.contents in
    let e = c.in_err-why.field-0.0 in
    let done = asked_in (take c.loop-line.line-index c.args.lines.now) in
    went_err c.from_residual.result e (asked_in c.args.lines.now) c.args.world.now c.ask.new.world (W c.args.out.now) (W c.ask.new.out)
    c.args.traffic.now.lines c.ask.new.self.lines c.from_residual.ensures.1
    (stopped_then done c.args.world.now c.loop-line.world (W c.args.out.now) (W c.loop-line.out) (W c.ask.new.out)
    c.args.traffic.now.lines c.loop-line.traffic.lines c.ask.new.self.lines e c.loop-line.invariant c.in_err-why.ensures)
