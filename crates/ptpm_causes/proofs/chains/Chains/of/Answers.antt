-- One more finding has its reason, and is a root if it has none.
use Rattle.std.proofs.Common.{[], ◌∷◌, length, length-append, ap, arith}
use Rattle.std.proofs.lemmas.List.Elements.{All-weaker}
use Rattle.std.proofs.lemmas.Map.Views.{All-values-insert_entry}
use Rattle.std.specs.BTreeMap.{values}
use Rattle.std.specs.List.{All}
use Rattle.ptpm_causes.specs.Roots.{IsRoot}
use Rattle.ptpm_causes.proofs.Roots.{IsRoot-last, IsRoot-more}
use Rattle.ptpm_causes.proofs.chains.Chains.of.Goals as goal
use Rattle.ptpm_causes.proofs.chains.Chains.of.Goals.{in-Some-reason+in_ok-onward-in-Some-reason, in-None+in_ok-insert-in-None}

pub loop-place-preserved : goal.loop-place-preserved
loop-place-preserved c =
    let l = c.loop-place in
    let old = l.reasons.items in
    let reasons = c.push.new.self.items in
    let reason = c.reason-reason.result in
    let items = c.in_ok-push.ensures.items in
    let kept : All (IsRoot reasons) (values l.roots) =
    All-weaker (IsRoot old) (IsRoot reasons) (λ p h. rw items (IsRoot-more old reason p h)) (values l.roots) l.invariant.roots in
    record {
      len = omega (arith, ap length items, length-append old (reason ∷ []), l.invariant.len);
      roots = elim c.match-reason.branch [
        | in-Some-reason+in_ok-onward-in-Some-reason w ↦ rw w.roots-is kept
        | in-None+in_ok-insert-in-None w ↦
            let one : IsRoot reasons l.place = rw items (IsRoot-last old reason l.place l.invariant.len w.in-None.is) in
            rw (w.roots-is, w.in_ok-insert-in-None.ensures.entries) (All-values-insert_entry _ _ _ (IsRoot reasons) l.roots.entries kept one)
      ];
    }
