-- Some place is that of a root, and so is that of its name.
use Rattle.std.proofs.Common.{ℕ, ◌<◌, List, Option, length, ap, subst, sym, arith}
use Rattle.std.proofs.lemmas.Result.{IfOk-weaker}
use Rattle.std.specs.List.{All}
use Rattle.std.specs.Option.{IfSome}
use Rattle.ptpm_causes.specs.Roots.{IsRoot}
use Rattle.ptpm_causes.proofs.Roots.{some_root}
use Rattle.ptpm_causes.proofs.causes.causes_of.Goals as goal

pub returns-clause-printed : goal.returns-clause-printed
returns-clause-printed c =
    let places = c.as_slice.result.now in
    let value = c.as_slice.ensures.value in
    let findings = c.args.picture.now.findings.items in
    IfOk-weaker c.names_at.result (λ causes. (p : ℕ) → IsRoot places p → IsRoot causes.items p) (λ causes. 0 < length findings → (p : ℕ) × IsRoot causes.items p)
    (λ causes roots lt. some_root places causes.items
    (omega (arith, lt, ap length value, c.in_ok-places.ensures.len, c.in_ok-chains.ensures, ap length c.as_slice-findings.ensures.value))
    (subst (λ (ps : List (Option ℕ)). All (λ o. IfSome o (IsRoot ps)) ps) (sym value) c.in_ok-places.ensures.printed) roots) c.names_at.ensures.roots
