use Rattle.std.proofs.Common.{◌≡◌, length, map, take}
use Rattle.ptpm_data.specs.declared.ports.TheConstants.{PORTS}
use Rattle.ptpm_host.specs.Observing.{port_observation}
use Rattle.ptpm_host.proofs.observing.place_each.Given as goal

abbrev pub invariant-loop-place : goal.invariant-loop-place
invariant-loop-place l = record {
  placed : take l.place l.places ≡ map port_observation (take l.place l.ports);
  size : length l.places ≡ PORTS;
}
