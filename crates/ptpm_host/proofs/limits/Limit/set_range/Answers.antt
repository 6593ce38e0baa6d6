use Rattle.std.proofs.Common.{◌∙◌, ap, sym, refl, ℕ, Bool, of_z, to_z, w32}
use Rattle.ptpm_host.specs.declared.limits.Limit.{Limit}
use Rattle.ptpm_host.specs.Limits.{has_value, is_of_range}
use Rattle.ptpm_host.proofs.LimitValues.{none_yet, one_more, passed_over}
use Rattle.ptpm_host.proofs.limits.Limit.set_range.Goals as goal
use Rattle.ptpm_host.proofs.limits.Limit.set_range.Goals.{then-is_of_range, else-is_of_range}

pub loop-octet-init : goal.loop-octet-init
loop-octet-init c = record {
  id = refl;
  port = refl;
  values = none_yet (λ n. is_of_range (to_z w32 (of_z w32 c.args.least)) (to_z w32 (of_z w32 c.args.most)) n);
}

pub loop-octet-preserved : goal.loop-octet-preserved
loop-octet-preserved c =
    let of : ℕ → Bool = λ n. is_of_range (to_z w32 (of_z w32 c.args.least)) (to_z w32 (of_z w32 c.args.most)) n in
    elim c.if-is_of_range.branch [
      | then-is_of_range w ↦ record {
        id = ap (λ (l : Limit). l.id) w.self-is ∙ (w.put.ensures.id ∙ c.loop-octet.invariant.id);
        port = ap (λ (l : Limit). l.port) w.self-is ∙ (w.put.ensures.port ∙ c.loop-octet.invariant.port);
        values = λ n small. ap (λ (l : Limit). has_value n l.values) w.self-is
            ∙ one_more of n c.loop-octet.octet _ _ (c.loop-octet.invariant.values n small) (sym c.is_of_range.ensures ∙ w.if-is_of_range.true) (w.put.ensures.values n small);
      }
      | else-is_of_range w ↦ record {
        id = ap (λ (l : Limit). l.id) w.self-is ∙ c.loop-octet.invariant.id;
        port = ap (λ (l : Limit). l.port) w.self-is ∙ c.loop-octet.invariant.port;
        values = λ n small. ap (λ (l : Limit). has_value n l.values) w.self-is
            ∙ passed_over of n c.loop-octet.octet _ (c.loop-octet.invariant.values n small) (sym c.is_of_range.ensures ∙ w.if-is_of_range.false);
      }
    ]
