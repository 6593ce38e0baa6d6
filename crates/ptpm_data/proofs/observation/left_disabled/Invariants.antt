use Rattle.std.proofs.Common.{◌≡◌, length, take}
use Rattle.ptpm_data.specs.Observation.{left_disabled}
use Rattle.ptpm_data.proofs.observation.left_disabled.Given as goal

abbrev pub invariant-loop-place : goal.invariant-loop-place
invariant-loop-place l = record {
  made : l.by_place.items ≡ left_disabled (take l.place l.observed) l.ports;
  count : length l.by_place.items ≡ l.place;
}
