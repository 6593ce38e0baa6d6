use Rattle.std.proofs.Common.{append_assoc, arith, rules}
use Rattle.std.proofs.lemmas.Grind.{common_steps}
use Rattle.ptpm_manager.specs.Image.{image_head}
use Rattle.ptpm_manager.proofs.image.put_head.Goals as goal

pub returns-clause-items : goal.returns-clause-items
unfolding image_head
returns-clause-items c =
    first_of (grind (arith, append_assoc), simp (c.put_u32.ensures.items, c.put.ensures.items, append_assoc), search rules, grind (arith, common_steps))
