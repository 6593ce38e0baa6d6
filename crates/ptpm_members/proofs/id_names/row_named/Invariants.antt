use Rattle.std.proofs.Common.{◌≡◌, drop}
use Rattle.ptpm_data.specs.ManagementId.{row_named}
use Rattle.ptpm_data.proofs.NameLemmas.{named_among, management_ids}
use Rattle.ptpm_members.specs.IdNames.{capitals}
use Rattle.ptpm_members.proofs.id_names.row_named.Given as goal

abbrev pub invariant-loop-id : goal.invariant-loop-id
invariant-loop-id l = row_named (capitals l.name) ≡ named_among (capitals l.name) (drop l.id-index management_ids)
