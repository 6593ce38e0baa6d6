use Rattle.std.proofs.Common.{[]}
use Rattle.ptpm_schedule.proofs.Going.{no_memory, stands_still, went_err}
use Rattle.ptpm_schedule.proofs.traffic.Traffic.try_send.Goals as goal
use Rattle.ptpm_world.specs.declared.script_error.ScriptError.TheVariants as faults

pub returns-in_default : goal.returns-in_default
returns-in_default g c = stands_still c.args.world.now (g.W.Write.contents c.args.out.now) c.args.self.now.lines

pub returns-in_err-copy : goal.returns-in_err-copy
returns-in_err-copy g c =
    let w = c.args.world.now in
    let told = g.W.Write.contents c.args.out.now in
    let count = c.args.self.now.lines in
    went_err c.from_residual.result faults.OutOfMemory [] w w told told count count c.from_residual.ensures.1
    (no_memory [] w w told told count count (stands_still w told count))
