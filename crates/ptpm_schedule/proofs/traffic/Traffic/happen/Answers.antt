use Rattle.std.proofs.Common.{ℕ, subst, sym}
use Rattle.ptpm_schedule.proofs.Going.{goes_once, no_memory, no_write, stays_late, stays_refused, stays_still, went_err}
use Rattle.ptpm_schedule.specs.Going.{Became, Goes, asked_by}
use Rattle.ptpm_schedule.proofs.traffic.Traffic.happen.Goals as goal
use Rattle.ptpm_world.specs.declared.script_error.ScriptError.TheVariants as faults

pub returns-in_ok-draw_frames-in-Happened : goal.returns-in_ok-draw_frames-in-Happened
returns-in_ok-draw_frames-in-Happened g c =
    let W = g.W.Write.contents in
    let e = c.args.event.now in
    let count = c.args.self.now.lines in
    subst (λ (n : ℕ). Goes (asked_by e) c.args.world.now c.try_event.new.world (W c.args.out.now) (W c.write_line.new.out) count n)
    (sym c.draw_frames.ensures)
    (goes_once c.args.world.now c.try_event.new.world e (W c.args.out.now) (W c.write_line.new.out) count
    c.try_event.ensures.same (subst (Became c.args.world.now c.try_event.new.world e) c.in-Happened.is c.in_ok-took.ensures.became)
    c.in_ok-write_line-in-Happened.ensures)

pub returns-in-Late : goal.returns-in-Late
returns-in-Late g c =
    stays_late c.args.world.now c.try_event.new.world c.args.event.now (g.W.Write.contents c.args.out.now) c.args.self.now.lines
    c.try_event.ensures.same (subst (Became c.args.world.now c.try_event.new.world c.args.event.now) c.in-Late.is c.in_ok-took.ensures.became)

pub returns-in-Refused : goal.returns-in-Refused
returns-in-Refused g c =
    stays_refused c.args.world.now c.try_event.new.world c.args.event.now (g.W.Write.contents c.args.out.now) c.args.self.now.lines
    c.try_event.ensures.same (subst (Became c.args.world.now c.try_event.new.world c.args.event.now) c.in-Refused.is c.in_ok-took.ensures.became)

pub returns-in_err-took : goal.returns-in_err-took
returns-in_err-took g c =
    let W = g.W.Write.contents in
    let count = c.args.self.now.lines in
    went_err c.from_residual.result faults.OutOfMemory (asked_by c.args.event.now) c.args.world.now c.try_event.new.world (W c.args.out.now) (W c.args.out.now)
    count count c.from_residual.ensures.1
    (no_memory _ c.args.world.now c.try_event.new.world (W c.args.out.now) (W c.args.out.now) count count
    (stays_still c.args.world.now c.try_event.new.world (W c.args.out.now) count c.try_event.ensures.same c.in_err-took.ensures.refused))

pub returns-in_err-write_line-in-Happened : goal.returns-in_err-write_line-in-Happened
returns-in_err-write_line-in-Happened g c =
    let W = g.W.Write.contents in
    let count = c.args.self.now.lines in
    went_err c.from_residual-in_err-write_line-in-Happened.result faults.WriteFault (asked_by c.args.event.now) c.args.world.now c.try_event.new.world
    (W c.args.out.now) (W c.write_line.new.out) count count c.from_residual-in_err-write_line-in-Happened.ensures.1
    (no_write c.args.world.now (W c.args.out.now) (W c.write_line.new.out) count count)

pub returns-in_err-draw_frames-in-Happened : goal.returns-in_err-draw_frames-in-Happened
returns-in_err-draw_frames-in-Happened g c =
    let W = g.W.Write.contents in
    let e = c.args.event.now in
    let count = c.args.self.now.lines in
    went_err c.from_residual-in_err-draw_frames-in-Happened.result faults.OutOfMemory (asked_by e) c.args.world.now c.try_event.new.world
    (W c.args.out.now) (W c.write_line.new.out) count c.draw_frames.new.self.lines c.from_residual-in_err-draw_frames-in-Happened.ensures.1
    (no_memory (asked_by e) c.args.world.now c.try_event.new.world (W c.args.out.now) (W c.write_line.new.out) count c.draw_frames.new.self.lines
    (subst (λ (n : ℕ). Goes (asked_by e) c.args.world.now c.try_event.new.world (W c.args.out.now) (W c.write_line.new.out) count n)
    (sym c.draw_frames.ensures)
    (goes_once c.args.world.now c.try_event.new.world e (W c.args.out.now) (W c.write_line.new.out) count
    c.try_event.ensures.same (subst (Became c.args.world.now c.try_event.new.world e) c.in-Happened.is c.in_ok-took.ensures.became)
    c.in_ok-write_line-in-Happened.ensures)))
