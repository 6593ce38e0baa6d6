use Rattle.std.proofs.Common.{◌≡◌, ◌≤◌, List, length, map, take}
use Rattle.std.specs.List.{All}
use Rattle.std.specs.Vec.{vec_capacity}
use Rattle.ptpm_data.specs.declared.data_sets.PortDataSet.{PortDataSet}
use Rattle.ptpm_data.specs.Image.{PortFits, ports_image}
use Rattle.ptpm_data.specs.ImageReading.{port_start}
use Rattle.ptpm_data.proofs.restoring.read_ports_in.Given as goal

abbrev pub invariant-loop-place : goal.invariant-loop-place
invariant-loop-place l = record {
  made : (ports : List PortDataSet) → All PortFits ports → l.octets ≡ ports_image ports → l.starts.items ≡ map port_start (take l.place ports);
  count : length l.starts.items ≡ l.place;
  room : l.count ≤ vec_capacity l.starts;
}
