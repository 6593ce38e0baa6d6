use Rattle.ptpm_schedule.specs.Going.{asked_by}
use Rattle.ptpm_schedule.proofs.Going.{goes_on, no_memory, stopped_then, went_err}
use Rattle.ptpm_schedule.proofs.traffic.Traffic.ask_settled.Goals as goal
use Rattle.ptpm_world.specs.declared.script_error.ScriptError.TheVariants as faults

pub returns-in_ok-send-in-Happened-Begin-Some : goal.returns-in_ok-send-in-Happened-Begin-Some
returns-in_ok-send-in-Happened-Begin-Some g c =
    let W = g.W.Write.contents in
    goes_on (asked_by c.args.event.now) c.args.world.now c.happen.new.world c.send.new.world (W c.args.out.now) (W c.happen.new.out) (W c.send.new.out)
    c.args.self.now.lines c.happen.new.self.lines c.send.new.self.lines
    c.in_ok-why.ensures c.in_ok-send-in-Happened-Begin-Some.ensures

pub returns-in_err-why : goal.returns-in_err-why
returns-in_err-why g c =
    let W = g.W.Write.contents in
    went_err c.from_residual.result c.in_err-why.field-0.0 (asked_by c.args.event.now) c.args.world.now c.happen.new.world
    (W c.args.out.now) (W c.happen.new.out) c.args.self.now.lines c.happen.new.self.lines c.from_residual.ensures.1 c.in_err-why.ensures

pub returns-in_err-map_err-in-Happened-Begin-Some : goal.returns-in_err-map_err-in-Happened-Begin-Some
returns-in_err-map_err-in-Happened-Begin-Some g c =
    let W = g.W.Write.contents in
    went_err c.from_residual-in_err-map_err-in-Happened-Begin-Some.result faults.OutOfMemory (asked_by c.args.event.now) c.args.world.now c.happen.new.world
    (W c.args.out.now) (W c.happen.new.out) c.args.self.now.lines c.happen.new.self.lines c.from_residual-in_err-map_err-in-Happened-Begin-Some.ensures.1
    (no_memory (asked_by c.args.event.now) c.args.world.now c.happen.new.world (W c.args.out.now) (W c.happen.new.out)
    c.args.self.now.lines c.happen.new.self.lines c.in_ok-why.ensures)

pub returns-in_err-send-in-Happened-Begin-Some : goal.returns-in_err-send-in-Happened-Begin-Some
returns-in_err-send-in-Happened-Begin-Some g c =
    let W = g.W.Write.contents in
    let e = c.in_err-send-in-Happened-Begin-Some.field-0.0 in
    went_err c.from_residual-in_err-send-in-Happened-Begin-Some.result e (asked_by c.args.event.now) c.args.world.now c.send.new.world
    (W c.args.out.now) (W c.send.new.out) c.args.self.now.lines c.send.new.self.lines c.from_residual-in_err-send-in-Happened-Begin-Some.ensures.1
    (stopped_then (asked_by c.args.event.now) c.args.world.now c.happen.new.world (W c.args.out.now) (W c.happen.new.out) (W c.send.new.out)
    c.args.self.now.lines c.happen.new.self.lines c.send.new.self.lines e c.in_ok-why.ensures c.in_err-send-in-Happened-Begin-Some.ensures)
