-- One more place has a name, or is none.
use Rattle.std.proofs.Common.{◌≡◌, ℕ, ◌+◌, ◌<◌, List, [], ◌∷◌, length, length-append, Option, None, sym, ap, subst, ◌∙◌, arith}
use Rattle.std.proofs.lemmas.Option.{none-some}
use Rattle.ptpm_causes.specs.declared.cause.Cause.{Cause}
use Rattle.ptpm_causes.specs.Roots.{IsRoot}
use Rattle.ptpm_causes.proofs.Roots.{roots-more}
use Rattle.ptpm_causes.proofs.causes.names_at.Goals as goal
use Rattle.ptpm_causes.proofs.causes.names_at.Goals.{in-Some, in-None}

pub loop-place-preserved : goal.loop-place-preserved
loop-place-preserved c =
    let l = c.loop-place in
    let places = c.args.places.now in
    let here : IsRoot places l.place-index → c.match-place.cause ≡ None = λ h. elim c.match-place.branch [
      | in-Some w ↦ absurd (none-some _ (sym (h.1 None) ∙ w.in-Some.is))
      | in-None w ↦ w.cause-is
    ] in
    record {
      len = omega (arith, ap length c.in_ok-push.ensures.items, length-append l.causes.items (c.match-place.cause ∷ []), l.invariant.len);
      roots = subst (λ (cs : List (Option Cause)). (p : ℕ) → p < l.place-index + 1 → IsRoot places p → IsRoot cs p) (sym c.in_ok-push.ensures.items)
          (roots-more places l.causes.items c.match-place.cause l.place-index l.invariant.len l.invariant.roots here);
    }

pub returns-clause-roots : goal.returns-clause-roots
returns-clause-roots c = λ p h. c.loop-place.invariant.roots p (omega (arith, h.0, c.loop-place-test.false)) h
