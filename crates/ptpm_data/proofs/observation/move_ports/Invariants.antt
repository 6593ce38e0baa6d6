use Rattle.std.proofs.Common.{◌≡◌, length, take}
use Rattle.ptpm_data.specs.Observation.{ports_after}
use Rattle.ptpm_data.proofs.observation.move_ports.Given as goal

abbrev pub invariant-loop-place : goal.invariant-loop-place
invariant-loop-place l = record {
  moved : l.ports ≡ ports_after (take l.place l.observed) l.initial.ports;
  count : length l.ports ≡ length l.initial.ports;
}
