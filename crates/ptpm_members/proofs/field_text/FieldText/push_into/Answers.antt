use Rattle.std.proofs.Common.{◌≡◌, ◌<◌, ◌==◌, ◌∙◌, ℕ, List, arith, false, length, subst, sym, take}
use Rattle.std.proofs.lemmas.Bool.{eqb-true}
use Rattle.std.proofs.lemmas.Bool.Decides.{nat_tests}
use Rattle.std.proofs.lemmas.List.{take_all}
use Rattle.ptpm_members.proofs.LineLemmas.{text_of_none, text_of_some}
use Rattle.ptpm_members.proofs.field_text.FieldText.push_into.Goals as goal

pub returns-then-is_empty : goal.returns-then-is_empty
returns-then-is_empty g c =
    let members = c.members_in-members in
    let none : length members.result.now ≡ 0 = eqb-true _ _ (sym c.is_empty.ensures ∙ c.if-is_empty.true) in
    subst (λ (t : List ℕ). g.T.TextSink.pushed c.args.sink.now t c.push_octets.new.sink)
    (text_of_none _ _ _ members.result.now members.ensures.value none) c.push_octets.ensures

pub returns : goal.returns
returns g c =
    let members = c.members_in-members in
    let no : length members.result.now == 0 ≡ false = sym c.is_empty.ensures ∙ c.if-is_empty.false in
    let some : 0 < length members.result.now = grind (arith, nat_tests) in
    let whole : take c.loop-member.member-index members.result.now ≡ members.result.now = take_all _ _ (omega arith) in
    subst (λ (t : List ℕ). g.T.TextSink.pushed c.args.sink.now t c.loop-member.sink)
    (text_of_some _ _ _ members.result.now members.ensures.value some) (rw whole at c.loop-member.invariant)
