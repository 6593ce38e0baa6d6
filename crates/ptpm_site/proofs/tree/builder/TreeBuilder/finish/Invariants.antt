-- The rows stand where they may, and each clock up to the place has its row.
use Rattle.std.proofs.Common.{◌≡◌, ℕ, ◌<◌, true, false, get_or}
use Rattle.ptpm_site.specs.Growing.{AreTrue}
use Rattle.ptpm_site.proofs.tree.builder.TreeBuilder.finish.Given as goal

abbrev pub invariant-loop-place : goal.invariant-loop-place
invariant-loop-place l = record {
  below : AreTrue l.forest l.self.rows.items;
  marked : (p : ℕ) → p < l.place → get_or l.self.marks.items p false ≡ true;
}
