use Rattle.std.proofs.Common.{arith, ◌≡◌, ◌==◌, ◌&&◌, ◌∙◌, ◌+◌, ◌-◌, ℕ, List, ap, length, not, sym}
use Rattle.ptpm_data.specs.declared.data_sets.PortDataSet.{PortDataSet}
use Rattle.ptpm_data.specs.Members.{is_forwarding_port, port_among}
use Rattle.ptpm_agent.proofs.Egress.{copies_up_to, copies_up_to-all, copies_up_to-none, copies_up_to-pass, copies_up_to-skip, room_for_copy}
use Rattle.ptpm_agent.proofs.forwarding.send_on.Goals as goal
use Rattle.ptpm_agent.proofs.forwarding.send_on.Goals.{then-is_egress, else-is_egress}

pub loop-port-init : goal.loop-port-init
loop-port-init g c = grind (arith, copies_up_to-none)

pub push_less_hop-requires-clause-room : goal.push_less_hop-requires-clause-room
push_less_hop-requires-clause-room g c =
    let as_many = g.met.O.Outgoing.as_many c.args.out.now c.loop-port.out c.loop-port.invariant.grown in
    let here = ap (λ (ports : List PortDataSet). not (c.loop-port.port == c.args.ingress) && is_forwarding_port (port_among c.loop-port.port ports)) (sym c.port_sets-ports.ensures)
    ∙ (sym c.is_egress.ensures ∙ c.if-is_egress.true) in
    let one = room_for_copy c.args.ingress c.args.sets.now c.args.datagram.now c.loop-port.port (g.O.Outgoing.most c.args.out.now)
    (omega (arith, c.loop-port.auto.port)) (omega (arith, c.loop-port-test.true, c.loop-port.auto.port, c.loop-port.auto.port-end, c.port_count-port-end.ensures)) here c.requires.room in
    omega (arith, as_many, one, ap (λ (xs : List (ℕ × List ℕ)). length xs) c.loop-port.invariant.copies)

pub loop-port-preserved : goal.loop-port-preserved
loop-port-preserved g c =
    let next : c.loop-port.port ≡ c.loop-port.port + 1 - 1 = omega arith in
    let more : copies_up_to c.args.ingress c.args.sets.now c.args.datagram.now c.loop-port.port ≡ g.O.Outgoing.sent c.if-is_egress.out = grind (arith, copies_up_to-pass, copies_up_to-skip) in
    let grown : g.O.Outgoing.grown c.args.out.now c.if-is_egress.out =
    elim c.if-is_egress.branch [
      | then-is_egress w ↦ rw w.out-is (g.met.O.Outgoing.grown_twice c.args.out.now c.loop-port.out w.push_less_hop.new.self c.loop-port.invariant.grown w.push_less_hop.ensures.grown)
      | else-is_egress w ↦ rw w.out-is c.loop-port.invariant.grown
    ] in
    grind arith

pub returns-clause-copies : goal.returns-clause-copies
returns-clause-copies g c =
    let last : c.loop-port.port - 1 ≡ length c.args.sets.now.ports = omega (arith, c.loop-port-test.false, c.loop-port.auto.port, c.loop-port.auto.port-end, c.port_count-port-end.ensures) in grind (arith, copies_up_to-all)
