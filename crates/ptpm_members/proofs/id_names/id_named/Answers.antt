use Rattle.std.proofs.Common.{ap, sym, ◌∙◌, option_map}
use Rattle.ptpm_data.specs.ManagementId.{row_value}
use Rattle.ptpm_members.specs.IdNames.{capitals}
use Rattle.ptpm_members.proofs.IdNames.{name_of_named, is_only_id, has_no_id}
use Rattle.ptpm_members.proofs.id_names.id_named.Goals as goal

pub returns-in-Some-clause-named : goal.returns-in-Some-clause-named
returns-in-Some-clause-named c =
    name_of_named (capitals c.args.name.now) (row_value c.in-Some.row)
    (sym (ap (option_map row_value) c.in-Some.is) ∙ c.row_named.ensures)

pub returns-in-Some-clause-found : goal.returns-in-Some-clause-found
returns-in-Some-clause-found c =
    λ id. is_only_id (capitals c.args.name.now) c.row_named.result c.in-Some.row id c.in-Some.is c.row_named.ensures

pub returns-in-None-clause-found : goal.returns-in-None-clause-found
returns-in-None-clause-found c =
    λ id. has_no_id (capitals c.args.name.now) c.row_named.result id c.in-None.is c.row_named.ensures
