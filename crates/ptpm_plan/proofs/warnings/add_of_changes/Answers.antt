use Rattle.std.proofs.Common.{◌≡◌, ◌+◌, ◌++◌, ◌∷◌, ◌∙◌, List, drop, ap, sym, append_assoc, arith}
use Rattle.std.proofs.lemmas.List.{drop_more}
use Rattle.ptpm_plan.specs.Warnings.{of_change, of_changes}
use Rattle.ptpm_plan.specs.declared.change.Change.{Change}
use Rattle.ptpm_plan.proofs.warnings.add_of_changes.Goals as goal

pub loop-place-preserved : goal.loop-place-preserved
loop-place-preserved c =
    let all = c.args.changes.now in
    let of = of_change all c.args.surveyed.now in
    let n = c.loop-place.place in
    let change = c.index-changes-place.result in
    let found = c.loop-place.found.items in
    let next : drop n all ≡ change ∷ drop (n + 1) all
    = drop_more all n change (omega (arith, c.loop-place-test.true)) ∙ ap (λ (x : Change). x ∷ drop (n + 1) all) (sym c.index-changes-place.is) in
    ap (λ xs. xs ++ of_changes of ((n + 1) + 1) (drop (n + 1) all)) c.in_ok-add_of_change.ensures
    ∙ append_assoc found (of (n + 1) change) (of_changes of ((n + 1) + 1) (drop (n + 1) all))
    ∙ ap (λ (xs : List Change). found ++ of_changes of (n + 1) xs) (sym next)
    ∙ c.loop-place.invariant
