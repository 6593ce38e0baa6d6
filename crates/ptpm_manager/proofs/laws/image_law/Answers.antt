use Rattle.ptpm_manager.proofs.ImageLaws.{image_back, one_image, permitted}
use Rattle.ptpm_manager.proofs.laws.image_law.Goals as goal

pub returns-clause-back : goal.returns-clause-back
returns-clause-back c = image_back

pub returns-clause-permitted : goal.returns-clause-permitted
returns-clause-permitted c = permitted

pub returns-clause-one : goal.returns-clause-one
returns-clause-one c = one_image
