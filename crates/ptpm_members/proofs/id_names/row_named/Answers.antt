use Rattle.std.proofs.Common.{arith, option_map, ◌∙◌, sym, ap}
use Rattle.ptpm_data.specs.ManagementId.{row_value}
use Rattle.ptpm_data.proofs.NameLemmas.{named_among_all, goes_on, is_found, is_nowhere, management_ids}
use Rattle.ptpm_members.specs.IdNames.{capitals}
use Rattle.ptpm_members.proofs.id_names.row_named.Goals as goal

pub loop-id-init : goal.loop-id-init
loop-id-init c = named_among_all (capitals c.args.name.now)

pub loop-id-preserved : goal.loop-id-preserved
loop-id-preserved c =
    let other = sym c.row_if_named.ensures ∙ ap (option_map row_value) c.in_default.is in
    goes_on (capitals c.args.name.now) management_ids c.loop-id.id-index (omega arith) c.loop-id.invariant other

pub returns-in-Some : goal.returns-in-Some
returns-in-Some c =
    let this = sym c.row_if_named.ensures ∙ ap (option_map row_value) c.in-Some.is in
    sym (is_found (capitals c.args.name.now) management_ids c.loop-id.id-index _ (omega arith) c.loop-id.invariant this)

pub returns : goal.returns
returns c = sym (is_nowhere (capitals c.args.name.now) management_ids c.loop-id.id-index (omega arith) c.loop-id.invariant)
