use Rattle.std.proofs.Common.{◌≡◌, ◌-◌, take}
use Rattle.ptpm_agent.proofs.Egress.{copies_up_to}
use Rattle.ptpm_host.specs.Clock.{messages_in}
use Rattle.ptpm_host.specs.Outbox.{HasGrown}
use Rattle.ptpm_host.proofs.transit.send_on.Given as goal

abbrev pub invariant-loop-port : goal.invariant-loop-port
invariant-loop-port l = record {
  copies : messages_in (take l.outbox.count l.outbox.room.now) ≡ copies_up_to l.ingress l.sets l.datagram (l.port - 1);
  grown : HasGrown l.initial.outbox l.outbox;
}
