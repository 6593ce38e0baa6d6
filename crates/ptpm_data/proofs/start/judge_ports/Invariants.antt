use Rattle.std.proofs.Common.{◌≡◌, drop}
use Rattle.ptpm_data.specs.Start.{ports_fault}
use Rattle.ptpm_data.proofs.start.judge_ports.Given as goal

abbrev pub invariant-loop-port : goal.invariant-loop-port
invariant-loop-port l = ports_fault l.ports ≡ ports_fault (drop l.port-index l.ports)
