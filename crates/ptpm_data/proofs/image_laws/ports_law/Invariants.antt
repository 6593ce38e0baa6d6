use Rattle.std.proofs.Common.{take}
use Rattle.std.specs.List.{All}
use Rattle.ptpm_data.specs.Image.{PortFits}
use Rattle.ptpm_data.proofs.image_laws.ports_law.Given as goal

abbrev pub invariant-loop-port : goal.invariant-loop-port
invariant-loop-port l = All PortFits (take l.port-index l.ports)
