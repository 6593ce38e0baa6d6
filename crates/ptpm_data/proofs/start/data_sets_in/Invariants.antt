use Rattle.std.proofs.Common.{◌≡◌, ◌≤◌, length, map, take}
use Rattle.std.specs.Vec.{vec_capacity}
use Rattle.ptpm_data.specs.Start.{port_data_set}
use Rattle.ptpm_data.proofs.start.data_sets_in.Given as goal

abbrev pub invariant-loop-port : goal.invariant-loop-port
invariant-loop-port l = record {
  made : l.sets.items ≡ map port_data_set (take l.port-index l.ports);
  room : length l.ports ≤ vec_capacity l.sets;
}
