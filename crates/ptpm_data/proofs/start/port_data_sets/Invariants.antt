use Rattle.std.proofs.Common.{◌≡◌, map, take, drop}
use Rattle.ptpm_data.specs.Start.{port_data_set, ports_fault}
use Rattle.ptpm_data.proofs.start.port_data_sets.Given as goal

abbrev pub invariant-loop-port : goal.invariant-loop-port
invariant-loop-port l = record {
  made : l.sets.items ≡ map port_data_set (take l.port-index l.ports);
  sound : ports_fault l.ports ≡ ports_fault (drop l.port-index l.ports);
}
