use Rattle.ptpm_world.proofs.Common.{arith, get_or, length-append, length-map}
use Rattle.std.proofs.lemmas.Grind.{common_steps}
use Rattle.ptpm_world.proofs.FrameLemmas.{filter_room}
use Rattle.ptpm_world.proofs.frames.push_others.Goals as goal

pub push_reserved-requires : goal.push_reserved-requires
push_reserved-requires c = grind (arith, get_or, common_steps, filter_room, length-append, length-map)
