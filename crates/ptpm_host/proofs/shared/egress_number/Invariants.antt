use Rattle.std.proofs.Common.{◌≡◌, ◌<◌, ◌+◌, ◌-◌, ◌^◌}
use Rattle.ptpm_host.specs.Answers.{egress_from}
use Rattle.ptpm_host.proofs.shared.egress_number.Given as goal

-- it is the number of the last ports
abbrev pub invariant-loop-above : goal.invariant-loop-above
invariant-loop-above l = record {
  last : l.number ≡ egress_from (l.count + 1 - l.above) l.above l.ingress l.sets;
  small : l.number < 2 ^ l.above;
}
