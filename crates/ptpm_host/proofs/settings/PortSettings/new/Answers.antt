use Rattle.std.proofs.Common.{refl}
use Rattle.ptpm_host.proofs.settings.PortSettings.new.Goals as goal

pub returns : goal.returns
returns c = rw c.new-start.ensures refl
