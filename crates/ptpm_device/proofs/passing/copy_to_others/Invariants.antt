use Rattle.std.proofs.Common.{◌≡◌, ◌-◌}
use Rattle.ptpm_agent.proofs.Egress.{copies_up_to}
use Rattle.ptpm_device.proofs.passing.copy_to_others.Given as goal

abbrev pub invariant-loop-port : goal.invariant-loop-port
invariant-loop-port g l = record {
  copies : g.O.Outgoing.sent l.out ≡ copies_up_to l.ingress l.sets l.datagram (l.port - 1);
  grown : g.O.Outgoing.grown l.initial.out l.out;
}
