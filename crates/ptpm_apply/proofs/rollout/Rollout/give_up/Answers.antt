use Rattle.std.proofs.Common.{arith, inr, refl}
use Rattle.ptpm_apply.proofs.rollout.Rollout.give_up.Goals as goal

pub note-requires-in_default-standing : goal.note-requires-in_default-standing
note-requires-in_default-standing c =
    record { may = c.requires c.in-Some.step c.in-Some.is; short = omega arith; group = inr refl; fits = tt }
