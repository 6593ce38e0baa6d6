use Rattle.std.proofs.Common.{arith, ◌∙◌, ap, sym}
use Rattle.std.specs.List.{filter_map}
use Rattle.toml.specs.View.{table_view}
use Rattle.ptpm_plan.specs.FileText.{all_of, wish_in, wishes_in}
use Rattle.ptpm_plan.specs.declared.change.TheConstants.PlannedId.{ALL}
use Rattle.ptpm_plan.proofs.Gathering.{all_found, before_all, gather_found, handed_on, none_before, none_found}
use Rattle.ptpm_plan.proofs.wishes_table.read_named.Goals as goal

pub loop-id-init : goal.loop-id-init
unfolding wishes_in
loop-id-init c =
    let asked = filter_map (wish_in (table_view c.args.table.now)) ALL in
    ap (λ made. before_all made asked) c.new-wishes.ensures.items ∙ none_before (all_of asked)

pub loop-id-preserved : goal.loop-id-preserved
loop-id-preserved c =
    sym (gather_found (wish_in (table_view c.args.table.now)) c.loop-id.wishes.items c.add_wish.new.wishes.items ALL c.loop-id.id-index _
    (omega (arith, c.loop-id-test.true)) c.in_ok-add_wish.ensures.found)
    ∙ c.loop-id.invariant

pub returns-in_err-add_wish : goal.returns-in_err-add_wish
returns-in_err-add_wish c =
    handed_on _ _ _ _ c.from_residual.ensures.1 (λ known.
    sym c.loop-id.invariant
    ∙ none_found (wish_in (table_view c.args.table.now)) c.loop-id.wishes.items ALL c.loop-id.id-index _ (omega (arith, c.loop-id-test.true))
    (c.in_err-add_wish.ensures.refused known))

pub returns : goal.returns
returns c =
    sym c.loop-id.invariant
    ∙ all_found (wish_in (table_view c.args.table.now)) c.loop-id.wishes.items ALL c.loop-id.id-index c.loop-id-test.false
