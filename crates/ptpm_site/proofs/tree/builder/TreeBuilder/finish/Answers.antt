-- Each clock is marked, and each that is marked has one row.
use Rattle.std.proofs.Common.{◌≡◌, true, false, cond, get_or, ap, ◌∙◌, arith}
use Rattle.ptpm_site.proofs.tree.builder.TreeBuilder.finish.Goals as goal

pub returns-clause-once : goal.returns-clause-once
returns-clause-once c = λ p h.
    let marked : get_or c.loop-place.self.marks.items p false ≡ true = c.loop-place.invariant.marked p (omega arith) in
    c.loop-place.self.grown p ∙ ap (λ b. cond b 1 0) marked
