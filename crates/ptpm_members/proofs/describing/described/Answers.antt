use Rattle.std.proofs.Common.{arith, ◌≡◌, ◌∙◌, ap, sym, ℕ, List, ◌++◌, length}
use Rattle.std.proofs.lemmas.Bool.{eqb-true}
use Rattle.ptpm_members.proofs.ParsingLemmas.{described_all, meant_end, too_long}
use Rattle.ptpm_members.proofs.describing.described.Goals as goal

pub returns-then-is_full : goal.returns-then-is_full
returns-then-is_full c =
    let full : length c.loop-octet.text.items ≡ 128 = eqb-true _ _ (sym c.is_full.ensures.value ∙ c.if-is_full.true) in
    sym (too_long c.args.typed.now c.loop-octet.text.items _ c.in-Some.octet
    (ap (λ (xs : List ℕ). c.loop-octet.text.items ++ xs) (sym c.in-Some.ensures.next) ∙ c.loop-octet.invariant)
    (omega arith))

pub returns : goal.returns
returns c =
    let all = meant_end c.args.typed.now c.loop-octet.text.items c.loop-octet.rest.now c.in_default.ensures.none c.loop-octet.invariant in
    rw (c.then_some.ensures, c.is_description.ensures, c.as_slice.ensures.value)
    (described_all (λ v. v.items) c.loop-octet.text c.args.typed.now all)
