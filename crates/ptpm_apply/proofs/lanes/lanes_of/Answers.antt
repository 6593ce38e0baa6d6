use Rattle.std.proofs.Common.{refl, length}
use Rattle.std.proofs.lemmas.Option.{slice_get_read}
use Rattle.ptpm_apply.proofs.Places.{one_more}
use Rattle.ptpm_apply.proofs.lanes.lanes_of.Goals as goal

pub loop-step-preserved : goal.loop-step-preserved
loop-step-preserved c =
    let steps = c.args.steps.now in
    one_more steps c.loop-step.step-index _ _ c.step-item.result
    (slice_get_read steps (length steps) c.loop-step.step-index c.step-item.result refl c.loop-step-test.true c.step-item.is)
    c.loop-step.invariant c.in_ok-add.ensures
