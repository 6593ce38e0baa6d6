use Rattle.std.proofs.Common.{◌≡◌, ◌<◌, ◌^◌, drop, length, ◌-◌}
use Rattle.ptpm_data.specs.Changed.{number_of}
use Rattle.ptpm_data.proofs.changed.number_of.Given as goal

abbrev pub invariant-loop-place : goal.invariant-loop-place
invariant-loop-place l = record {
  read : l.number ≡ number_of (drop (length l.digits - l.place) l.digits);
  small : l.number < 2 ^ l.place;
}
