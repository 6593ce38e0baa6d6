use Rattle.std.proofs.Common.{◌≤◌, arith, length, subst}
use Rattle.std.specs.List.{All}
use Rattle.std.proofs.lemmas.List.{take_all}
use Rattle.std.proofs.lemmas.List.Elements.{All-more}
use Rattle.ptpm_data.specs.Image.{PortFits}
use Rattle.ptpm_data.proofs.image_laws.ports_law.Goals as goal

pub loop-port-preserved : goal.loop-port-preserved
loop-port-preserved c =
    All-more PortFits c.args.ports.now c.loop-port.port-index c.port-item.result (omega arith) c.loop-port.invariant
    (subst PortFits c.port-item.is c.port_law.ensures)

pub returns : goal.returns
returns c =
    let past : length c.args.ports.now ≤ c.loop-port.port-index = omega arith in
    subst (All PortFits) (take_all c.loop-port.port-index c.args.ports.now past) c.loop-port.invariant
