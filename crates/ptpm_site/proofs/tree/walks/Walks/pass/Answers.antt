-- The place has its number.
use Rattle.std.proofs.Common.{◌≡◌, ◌<◌, ◌++◌, ◌∷◌, [], Some, length, set, subst, arith}
use Rattle.ptpm_site.specs.Walks.{AreNumbered}
use Rattle.ptpm_site.proofs.Passing.{AreNumbered-pass}
use Rattle.ptpm_site.proofs.tree.walks.Walks.pass.Goals as goal

pub invariant_of-self-2 : goal.invariant_of-self-2
invariant_of-self-2 c =
    let old = c.args.self.now in
    let within : c.args.place < length old.indices.items = omega (arith, old.indices.ok.0, c.requires.within) in
    let counted : length old.passed.items ≡ c.len-index.result = omega (arith, old.passed.ok.0, c.len-index.ensures) in
    let grown = AreNumbered-pass old.indices.items old.passed.items c.args.place old.numbered within c.requires.new in
    let at_index : AreNumbered (set old.indices.items c.args.place (Some c.len-index.result)) (old.passed.items ++ c.args.place ∷ []) =
    subst (λ n. AreNumbered (set old.indices.items c.args.place (Some n)) (old.passed.items ++ c.args.place ∷ [])) counted grown in
    record { numbered = rw c.in_ok-push.ensures.items at_index }
