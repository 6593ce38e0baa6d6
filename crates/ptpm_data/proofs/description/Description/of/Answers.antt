use Rattle.ptpm_data.proofs.DescriptionLaws.{is_spelled, text_spelled}
use Rattle.ptpm_data.proofs.description.Description.of.Goals as goal

pub invariant_of-result : goal.invariant_of-result
invariant_of-result c = is_spelled _ _ c.overwrite_ptp_text.ensures c.requires

pub returns : goal.returns
returns c = text_spelled _ _ c.overwrite_ptp_text.ensures
