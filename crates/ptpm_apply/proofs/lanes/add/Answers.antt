use Rattle.ptpm_apply.proofs.Places.{added}
use Rattle.ptpm_apply.proofs.lanes.add.Goals as goal

pub returns-in_ok-insert-in-Err : goal.returns-in_ok-insert-in-Err
returns-in_ok-insert-in-Err c =
    rw (c.in_ok-insert-in-Err.ensures.items, c.new.ensures) (added _ _ _ (rw (← c.as_slice.ensures.value) c.in-Err.ensures.absent) c.requires)
