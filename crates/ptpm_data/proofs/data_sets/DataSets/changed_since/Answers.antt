use Rattle.std.proofs.Common.{arith}
use Rattle.ptpm_data.specs.declared.ports.TheConstants.{PORTS}
use Rattle.ptpm_data.specs.Changed.{port_changed}
use Rattle.ptpm_data.proofs.Differing.{all_told, one_more_told}
use Rattle.ptpm_data.proofs.data_sets.DataSets.changed_since.Goals as goal

pub loop-place-preserved : goal.loop-place-preserved
loop-place-preserved c =
    let most = c.greater-place-end.ensures.most PORTS c.port_count.ensures.range.1 c.port_count-2.ensures.most in
    one_more_told (port_changed c.args.before.now c.args.self.now) c.loop-place.place PORTS c.loop-place.ports _
    c.loop-place.invariant (omega (arith, most)) c.port_changed_since.ensures

pub returns : goal.returns
returns c =
    let most = c.greater-place-end.ensures.most PORTS c.port_count.ensures.range.1 c.port_count-2.ensures.most in
    let told = all_told c.args.before.now c.args.self.now c.loop-place.place PORTS c.loop-place.ports c.loop-place.invariant
    (omega (arith, most)) (omega (arith, most)) (omega (arith, most)) in
    λ i. record { clock = c.clock_changed_since.ensures i; ports = told i }
