use Rattle.std.proofs.Common.{arith, ◌≡◌, ◌∙◌, ◌+◌, List, Some, ap, get_or, length, refl, slice_get}
use Rattle.std.proofs.lemmas.Option.{slice_get_read}
use Rattle.ptpm_data.specs.declared.data_sets.PortDataSet.{PortDataSet}
use Rattle.ptpm_data.specs.declared.ports.TheConstants.{PORTS}
use Rattle.ptpm_data.specs.Changed.{port_changed}
use Rattle.ptpm_data.specs.Changes.{with_ports}
use Rattle.ptpm_data.proofs.Differing.{one_more_told}
use Rattle.ptpm_data.proofs.ForeseenMembers.{named_told, none_named_after, none_named_before, of_ports_told}
use Rattle.ptpm_data.proofs.data_sets.DataSets.changes_of_ports.Goals as goal

pub loop-place-init : goal.loop-place-init
loop-place-init c =
    let few = c.port_count.ensures.range.1 in
    none_named_before c.args.port c.named_places-first.result.0 PORTS c.args.change c.args.self.now (omega (arith, few)) c.named_places-first.ensures.before

pub loop-place-preserved : goal.loop-place-preserved
loop-place-preserved c =
    let few = c.port_count.ensures.range.1 in
    let d = c.args.self.now in
    let place = c.loop-place.place in
    let p = c.index-sets-place.result in
    let here : slice_get d.ports place ≡ Some p = slice_get_read d.ports (length d.ports) place p refl (omega arith)
    (c.index-sets-place.is ∙ ap (λ (ps : List PortDataSet). get_or ps place p) c.port_sets-sets.ensures) in
    one_more_told (port_changed d (with_ports c.args.port d c.args.change)) place PORTS c.loop-place.ports _ c.loop-place.invariant (omega (arith, few))
    (named_told c.args.port (place + 1) place c.args.change d p c.changes_of.result refl (c.named_places-first.ensures.named place (omega arith) (omega arith))
    here c.changes_of.ensures)

pub returns : goal.returns
returns c =
    let few = c.port_count.ensures.range.1 in
    let d = c.args.self.now in
    of_ports_told c.args.port c.args.change d c.loop-place.ports
    (none_named_after c.args.port c.loop-place.place PORTS c.args.change d c.loop-place.ports c.loop-place.invariant (omega (arith, few))
    (λ n past below. c.named_places-first.ensures.after n (omega (arith, past)) (omega (arith, below))))
