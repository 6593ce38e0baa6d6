use Rattle.std.proofs.Common.{arith, ◌≡◌, ◌+◌, ◌-◌, ℕ, List, ap, length, take}
use Rattle.std.proofs.lemmas.List.{length-map, length-take-le}
use Rattle.ptpm_agent.proofs.Egress.{copies_up_to-all, copies_up_to-none, copies_up_to-pass, copies_up_to-skip, length-copies_up_to}
use Rattle.ptpm_host.specs.declared.sent.Sent.{Sent}
use Rattle.ptpm_host.specs.Clock.{message_in}
use Rattle.ptpm_host.specs.OutboxLaws.{as_many, grown_by_none, grown_twice}
use Rattle.ptpm_host.proofs.transit.send_on.Goals as goal

pub loop-port-init : goal.loop-port-init
loop-port-init c = grind (arith, copies_up_to-none, grown_by_none)

pub push_lowered-requires-clause-room : goal.push_lowered-requires-clause-room
push_lowered-requires-clause-room c =
    omega (
      arith,
      c.requires.room,
      c.loop-port-test.true,
      c.loop-port.auto.port-end,
      c.port_count-port-end.ensures.range,
      as_many c.new-outbox.result c.loop-port.outbox c.loop-port.invariant.grown,
      ap (λ (places : List Sent). length places) c.new-outbox.ensures.room,
      c.loop-port.outbox.few,
      length-map {B = ℕ × List ℕ} (take c.loop-port.outbox.count c.loop-port.outbox.room.now) message_in,
      length-take-le c.loop-port.outbox.count c.loop-port.outbox.room.now c.loop-port.outbox.few,
      ap (λ (xs : List (ℕ × List ℕ)). length xs) c.loop-port.invariant.copies,
      length-copies_up_to c.args.ingress c.args.sets.now c.args.datagram.now (c.loop-port.port - 1),
    )

pub loop-port-preserved : goal.loop-port-preserved
loop-port-preserved c =
    let next : c.loop-port.port ≡ c.loop-port.port + 1 - 1 = omega arith in
    grind (arith, copies_up_to-pass, copies_up_to-skip, grown_twice)

pub returns-clause-copies : goal.returns-clause-copies
returns-clause-copies c =
    let last : c.loop-port.port - 1 ≡ length c.args.sets.now.ports = omega (arith, c.loop-port-test.false, c.loop-port.auto.port, c.loop-port.auto.port-end, c.port_count-port-end.ensures) in
    let counted : c.count.result ≡ c.loop-port.outbox.count = omega (
      arith,
      c.count.ensures,
      length-map {B = ℕ × List ℕ} (take c.loop-port.outbox.count c.loop-port.outbox.room.now) message_in,
      length-take-le c.loop-port.outbox.count c.loop-port.outbox.room.now c.loop-port.outbox.few,
    ) in
    grind (arith, copies_up_to-all)
