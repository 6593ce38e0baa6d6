-- One more finding has a root, or none.
use Rattle.std.proofs.Common.{◌≡◌, ℕ, ◌+◌, ◌<◌, List, [], ◌∷◌, length, length-append, get_or, Option, None, sym, ap, subst, ◌∙◌, arith}
use Rattle.std.proofs.lemmas.List.Elements.{All-push}
use Rattle.std.proofs.lemmas.Option.{none-some}
use Rattle.std.specs.List.{All}
use Rattle.std.specs.Option.{IfSome}
use Rattle.ptpm_causes.specs.Roots.{IsRoot}
use Rattle.ptpm_causes.proofs.Roots.{printed, roots-more}
use Rattle.ptpm_causes.proofs.chains.Chains.places.Goals as goal
use Rattle.ptpm_causes.proofs.chains.Chains.places.Goals.{in-Some, in-None}

pub loop-reason-preserved : goal.loop-reason-preserved
loop-reason-preserved c =
    let l = c.loop-reason in
    let reasons = c.args.self.now.reasons.items in
    let place = c.match-reason.place in
    let value = c.as_slice-reason-items.ensures.value in
    let here : IsRoot reasons l.reason-index → place ≡ None = λ h. elim c.match-reason.branch [
      | in-Some w ↦ absurd (none-some _ (sym (ap (λ xs. get_or xs l.reason-index None) value ∙ h.1 None) ∙ w.in-Some.is))
      | in-None w ↦ w.place-is
    ] in
    let one : IfSome place (IsRoot reasons) = elim c.match-reason.branch [
      | in-Some w ↦ subst (λ (o : Option ℕ). IfSome o (IsRoot reasons)) (sym w.place-is) w.root_of-place.ensures
      | in-None w ↦ subst (λ (o : Option ℕ). IfSome o (IsRoot reasons)) (sym w.place-is) tt
    ] in
    record {
      len = omega (arith, ap length c.in_ok-push.ensures.items, length-append l.places.items (place ∷ []), l.invariant.len);
      roots = subst (All (λ o. IfSome o (IsRoot reasons))) (sym c.in_ok-push.ensures.items)
          (All-push (λ o. IfSome o (IsRoot reasons)) l.places.items place l.invariant.roots one);
      none = subst (λ (ps : List (Option ℕ)). (p : ℕ) → p < l.reason-index + 1 → IsRoot reasons p → IsRoot ps p) (sym c.in_ok-push.ensures.items)
          (roots-more reasons l.places.items place l.reason-index l.invariant.len l.invariant.none here);
    }

pub returns-clause-printed : goal.returns-clause-printed
returns-clause-printed c =
    let reasons = c.args.self.now.reasons.items in
    printed reasons c.loop-reason.places.items
    (λ p lt h. c.loop-reason.invariant.none p (omega (arith, lt, ap length c.as_slice-reason-items.ensures.value, c.loop-reason-test.false)) h) c.loop-reason.invariant.roots
