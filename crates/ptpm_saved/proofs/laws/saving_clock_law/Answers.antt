use Rattle.ptpm_saved.proofs.SavingLaws.{clock_as_if_powered}
use Rattle.ptpm_saved.proofs.laws.saving_clock_law.Goals as goal

pub returns : goal.returns
returns c = clock_as_if_powered
