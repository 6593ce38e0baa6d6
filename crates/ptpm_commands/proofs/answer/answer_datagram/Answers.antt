use Rattle.std.proofs.Common.{◌≡◌, ◌∙◌, ap, arith, length}
use Rattle.ptpm_data.specs.Members.{DataSetsValue}
use Rattle.ptpm_agent.proofs.Turns.{turn-ports}
use Rattle.ptpm_commands.proofs.answer.answer_datagram.Goals as goal

pub returns-in_err-write_messages-clause-port : goal.returns-in_err-write_messages-clause-port
returns-in_err-write_messages-clause-port g c =
    let ports : length c.handle.new.self.sets.ports ≡ length c.args.clock.now.sets.ports =
    ap (λ (d : DataSetsValue). length d.ports) c.handle.ensures.turned.sets_are ∙ turn-ports _ _ 1 c.args.datagram.now in
    (omega arith, omega (arith, ports, c.requires.port.1))

pub returns-clause-port : goal.returns-clause-port
returns-clause-port g c =
    let ports : length c.handle.new.self.sets.ports ≡ length c.args.clock.now.sets.ports =
    ap (λ (d : DataSetsValue). length d.ports) c.handle.ensures.turned.sets_are ∙ turn-ports _ _ 1 c.args.datagram.now in
    (omega arith, omega (arith, ports, c.requires.port.1))
