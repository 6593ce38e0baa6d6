-- The row of the port is there already, or is the last one now.
use Rattle.std.proofs.Common.{◌≡◌, [], true, Option, Some, None, get_or, inr, subst, sym, ap, ◌∙◌, arith}
use Rattle.std.proofs.lemmas.Bool.{not-false}
use Rattle.std.proofs.lemmas.Option.{same_Some}
use Rattle.std.specs.List.{Contains}
use Rattle.std.specs.Option.{option_eq}
use Rattle.ptpm_codec.specs.Identity.{same_identity}
use Rattle.ptpm_codec.proofs.MessageLaws.{same_identity-true}
use Rattle.ptpm_codec.specs.declared.identity.PortIdentity.{PortIdentity}
use Rattle.ptpm_site.specs.declared.tree.forest.Lost.{Lost}
use Rattle.ptpm_site.specs.declared.tree.TreeRow.{TreeRow}
use Rattle.ptpm_site.specs.declared.tree.TreeRow.TheVariants as row
use Rattle.ptpm_site.specs.declared.tree.builder.TreeBuilder.{TreeBuilder}
use Rattle.ptpm_site.specs.Tree.{IsAbove}
use Rattle.ptpm_site.proofs.Rows.{IsAbove-last}
use Rattle.ptpm_site.proofs.tree.add_lost.Goals as goal
use Rattle.ptpm_site.proofs.tree.add_lost.Goals.{then-ne+in_ok-add_not_seen, else-ne}

same_above : (o : Option PortIdentity) (p : PortIdentity) → option_eq same_identity o (Some p) ≡ true → o ≡ Some p
same_above None p h = cc
same_above (Some q) p h = ap Some (same_identity-true q p h)

pub add_subtree-requires-clause-stands : goal.add_subtree-requires-clause-stands
add_subtree-requires-clause-stands c =
    let none : Lost = record { domain = record { 0 = 0 }; parent = record { clock = record { 0 = [] }; port = 0 }; place = 0 } in
    let lost : Lost = get_or c.lost_of-lost-items.result.now c.loop-lost.lost-index none in
    let port : TreeRow = row.NotSeen c.args.domain lost.parent in
    let read = c.lost_of-lost-items.ensures c.loop-lost.lost-index none (omega arith) in
    let above : IsAbove c.if-ne.builder.rows.items 1 port = elim c.if-ne.branch [
      | then-ne+in_ok-add_not_seen w ↦
          subst (λ (b : TreeBuilder). IsAbove b.rows.items 1 port) (sym w.builder-is)
          (subst (λ rows. IsAbove rows 1 port) (sym w.in_ok-add_not_seen.ensures) (IsAbove-last c.loop-lost.builder.rows.items port))
      | else-ne w ↦
          let same : option_eq same_identity c.loop-lost.above (Some lost.parent) ≡ true =
          not-false (option_eq same_identity c.loop-lost.above (Some lost.parent)) (sym c.ne.ensures ∙ w.if-ne.false) in
          subst (λ (b : TreeBuilder). IsAbove b.rows.items 1 port) (sym w.builder-is)
          (c.loop-lost.invariant.above lost.parent (same_above c.loop-lost.above lost.parent same))
    ] in
    inr (port, above, subst (λ n. let l : Lost = record { domain = n; parent = lost.parent; place = lost.place } in Contains c.args.forest.now.lost.items l) read.0 read.1)

pub loop-lost-init : goal.loop-lost-init
loop-lost-init c = record {
  below = c.requires;
  above = λ parent none. cc;
}

pub loop-lost-preserved : goal.loop-lost-preserved
loop-lost-preserved c =
    let none : Lost = record { domain = record { 0 = 0 }; parent = record { clock = record { 0 = [] }; port = 0 }; place = 0 } in
    let lost : Lost = get_or c.lost_of-lost-items.result.now c.loop-lost.lost-index none in
    let port : TreeRow = row.NotSeen c.args.domain lost.parent in
    let old = c.loop-lost.builder.rows.items in
    let mid = c.if-ne.builder.rows.items in
    let above : (parent : PortIdentity) → c.if-ne.above ≡ Some parent → IsAbove mid 1 (row.NotSeen c.args.domain parent) = λ parent same. elim c.if-ne.branch [
      | then-ne+in_ok-add_not_seen w ↦
          let is : lost.parent ≡ parent = same_Some lost.parent parent (sym w.above-is ∙ same) in
          subst (λ p. IsAbove mid 1 (row.NotSeen c.args.domain p)) is
          (subst (λ (b : TreeBuilder). IsAbove b.rows.items 1 port) (sym w.builder-is)
          (subst (λ rows. IsAbove rows 1 port) (sym w.in_ok-add_not_seen.ensures) (IsAbove-last old port)))
      | else-ne w ↦
          subst (λ (b : TreeBuilder). IsAbove b.rows.items 1 (row.NotSeen c.args.domain parent)) (sym w.builder-is)
          (c.loop-lost.invariant.above parent (sym w.above-is ∙ same))
    ] in
    record {
      below = c.in_ok-add_subtree.ensures.below;
      above = λ parent same. c.in_ok-add_subtree.ensures.above 1 (row.NotSeen c.args.domain parent) (omega arith) (above parent same);
    }
