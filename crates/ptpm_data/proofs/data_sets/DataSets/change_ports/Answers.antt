use Rattle.std.proofs.Common.{◌≡◌, List, subst, sym}
use Rattle.ptpm_data.specs.declared.data_sets.PortDataSet.{PortDataSet}
use Rattle.ptpm_data.specs.Changes.{named_changed}
use Rattle.ptpm_data.specs.Members.{IsConsistent, data_sets_value}
use Rattle.ptpm_data.specs.PortChange.{port_after}
use Rattle.ptpm_data.specs.PortList.{ports_in}
use Rattle.ptpm_data.proofs.Consistency.{ports_stay}
use Rattle.ptpm_data.proofs.data_sets.DataSets.change_ports.Goals as goal

pub invariant_of-self : goal.invariant_of-self
invariant_of-self c =
    let before = data_sets_value c.self.inside in
    let all : ports_in c.change.new.self ≡ named_changed c.args.port (port_after c.args.change) before.ports = c.change.ensures in
    subst (λ (ports : List PortDataSet). IsConsistent (record before { ports = ports })) (sym all)
    (ports_stay c.args.port before c.args.change c.requires.range c.self.invariant)
