use Rattle.ptpm_codec.proofs.ReadingLaws.{message_of-spells, spells-message_of}
use Rattle.ptpm_codec.proofs.laws.message_of_spelling.Goals as goal

pub returns : goal.returns
returns c = λ v d. (message_of-spells v d, spells-message_of v d)
