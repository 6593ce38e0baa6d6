use Rattle.ptpm_world.proofs.Common.{arith, flat_map, Appends-nil, Appends-trans}
use Rattle.ptpm_world.proofs.Taking.{takes-after, takes-front, writes-err, ports-cut, ports-more}
use Rattle.ptpm_world.proofs.trace.write_sets.Goals as goal

pub loop-port-init : goal.loop-port-init
loop-port-init g c = Appends-nil _

pub loop-port-preserved : goal.loop-port-preserved
loop-port-preserved g c = grind (arith, ports-more)

pub returns : goal.returns
returns g c = grind (arith, flat_map, Appends-trans)

pub returns-in_err-write_clock : goal.returns-in_err-write_clock
returns-in_err-write_clock g c =
    writes-err c.from_residual.result c.in_err-write_clock.field-0.0 c.from_residual.ensures.1 c.in_err-write_clock.ensures.0 (takes-front _ c.in_err-write_clock.ensures.1)

pub returns-in_err-write_port : goal.returns-in_err-write_port
returns-in_err-write_port g c =
    writes-err c.from_residual-in_err-write_port.result c.in_err-write_port.field-0.0 c.from_residual-in_err-write_port.ensures.1 c.in_err-write_port.ensures.0
    (takes-after _ _ c.in_ok-write_clock.ensures (ports-cut _ _ _ _ c.loop-port.port _ c.loop-port.auto.port (omega arith) c.loop-port.invariant c.in_err-write_port.ensures.1))
