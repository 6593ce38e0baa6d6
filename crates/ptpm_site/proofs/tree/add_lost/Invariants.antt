-- The rows stand where they may, and the row of the port that was followed last is above what comes at depth 1.
use Rattle.std.proofs.Common.{◌≡◌, Some}
use Rattle.ptpm_codec.specs.declared.identity.PortIdentity.{PortIdentity}
use Rattle.ptpm_site.specs.declared.tree.TreeRow.TheVariants as row
use Rattle.ptpm_site.specs.Growing.{AreTrue}
use Rattle.ptpm_site.specs.Tree.{IsAbove}
use Rattle.ptpm_site.proofs.tree.add_lost.Given as goal

abbrev pub invariant-loop-lost : goal.invariant-loop-lost
invariant-loop-lost l = record {
  below : AreTrue l.forest l.builder.rows.items;
  above : (parent : PortIdentity) → l.above ≡ Some parent → IsAbove l.builder.rows.items 1 (row.NotSeen l.domain parent);
}
