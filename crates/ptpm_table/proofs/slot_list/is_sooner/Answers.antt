use Rattle.std.proofs.Common.{◌∙◌, ◌<◌, Option, ap, length, subst, sym, ℕ}
use Rattle.std.specs.Prelude.{◌↔◌, IfSome, IsTrue}
use Rattle.ptpm_codec.specs.Identity.{identity_cmp}
use Rattle.std.specs.Ordering.{is_lt}
use Rattle.ptpm_table.specs.Slots.{IsSooner}
use Rattle.ptpm_table.proofs.LendingLaws.{sooner_by_test}
use Rattle.ptpm_table.proofs.slot_list.is_sooner.Goals as goal

pub returns-in-Some : goal.returns-in-Some
returns-in-Some c = λ s at.
    let d = c.index-slots-place.result in
    let e = c.index-slots-next.result in
    let test = c.is_before.ensures ∙ (λ i. is_lt (identity_cmp ((c.manager.ensures ∙ ap (λ t. t.kept.manager) (sym c.index-slots-place.is)) i) ((c.manager-in-Some.ensures ∙ ap (λ t. t.kept.manager) (sym c.index-slots-next.is)) i))) in
    subst (λ (next : Option ℕ). IsTrue c.is_before.result ↔ IsSooner c.args.slots.now s next) (sym c.in-Some.is)
    (sooner_by_test c.args.slots.now s d e c.args.place c.in-Some.next c.is_before.result at c.index-slots-place.is
    (subst (λ (o : Option ℕ). IfSome o (λ j. j < length c.args.slots.now)) c.in-Some.is c.requires.next) c.index-slots-next.is test)
