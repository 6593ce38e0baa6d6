use Rattle.ptpm_data.proofs.DescriptionLaws.{is_spelled, text_spelled}
use Rattle.ptpm_data.proofs.description.Description.set.Goals as goal

pub invariant_of-self : goal.invariant_of-self
invariant_of-self c = is_spelled _ _ c.overwrite_ptp_text.ensures c.requires

pub returns : goal.returns
returns c = text_spelled _ _ c.overwrite_ptp_text.ensures
