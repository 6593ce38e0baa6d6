use Rattle.std.proofs.Common.{◌≡◌, drop}
use Rattle.ptpm_data.specs.ManagementId.{row_named}
use Rattle.ptpm_data.proofs.NameLemmas.{named_among, management_ids}
use Rattle.ptpm_data.proofs.management_id.by_name.Given as goal

abbrev pub invariant-loop-id : goal.invariant-loop-id
invariant-loop-id l = row_named l.name ≡ named_among l.name (drop l.id-index management_ids)
