use Rattle.std.proofs.Common.{◌≡◌}
use Rattle.ptpm_schedule.proofs.Going.{late_step, on_err, refused_became, same_step}
use Rattle.ptpm_schedule.proofs.traffic.try_event.Goals as goal
use Rattle.ptpm_world.specs.Placed.{names_in, placed}
use Rattle.ptpm_world.specs.Running.{running}

pub returns-then-is_late-clause-became : goal.returns-then-is_late-clause-became
returns-then-is_late-clause-became c =
    late_step c.args.world.now c.args.event.now c.is_late.result c.is_late.ensures c.if-is_late.true

pub returns-in-Ok-clause-same : goal.returns-in-Ok-clause-same
returns-in-Ok-clause-same c =
    let old = c.args.world.now in
    same_step old c.step.new.self (placed (names_in old) c.args.event.now) c.step.result c.step.ensures.step c.step.ensures.names

pub returns-in-Err-clause-same : goal.returns-in-Err-clause-same
returns-in-Err-clause-same c =
    let old = c.args.world.now in
    same_step old c.step.new.self (placed (names_in old) c.args.event.now) c.step.result c.step.ensures.step c.step.ensures.names

pub returns-in-Err-clause-became : goal.returns-in-Err-clause-became
returns-in-Err-clause-became c =
    refused_became c.refused.result c.args.world.now c.step.new.self c.args.event.now c.in-Err.why c.in-Err.ensures.unchanged c.in-Err.ensures.machine c.refused.ensures

pub returns-in-Err-clause-refused : goal.returns-in-Err-clause-refused
returns-in-Err-clause-refused c = on_err c.refused.result (running c.step.new.self ≡ running c.args.world.now) c.in-Err.ensures.unchanged
