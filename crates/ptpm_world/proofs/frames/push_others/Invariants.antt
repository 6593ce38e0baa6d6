use Rattle.ptpm_world.proofs.Common.{◌≡◌, ◌++◌, map, take, vec_capacity, at_end, others}
use Rattle.ptpm_world.proofs.frames.push_others.Given as goal

-- the frame was stored for each other end so far, if there was room
abbrev pub invariant-loop-end : goal.invariant-loop-end
invariant-loop-end l =
    (l.stored.items ≡ l.fn.stored.items ++ map (at_end l.frame) (others l.frame.end (take l.end-index l.ends)))
    × (vec_capacity l.stored ≡ vec_capacity l.fn.stored)
