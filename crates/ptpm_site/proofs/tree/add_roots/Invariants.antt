-- The rows stand where they may.
use Rattle.ptpm_site.specs.Growing.{AreTrue}
use Rattle.ptpm_site.proofs.tree.add_roots.Given as goal

abbrev pub invariant-loop-place : goal.invariant-loop-place
invariant-loop-place g l = AreTrue l.forest l.builder.rows.items
