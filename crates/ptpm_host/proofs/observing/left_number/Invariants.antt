use Rattle.std.proofs.Common.{◌≡◌, ◌<◌, ◌+◌, ◌-◌, ◌^◌}
use Rattle.ptpm_data.specs.declared.ports.TheConstants.{PORTS}
use Rattle.ptpm_host.specs.Observing.{left_from}
use Rattle.ptpm_host.proofs.observing.left_number.Given as goal

-- it is the number of the last ports
abbrev pub invariant-loop-above : goal.invariant-loop-above
invariant-loop-above l = record {
  last : l.number ≡ left_from (PORTS + 1 - l.above) l.above l.left;
  small : l.number < 2 ^ l.above;
}
