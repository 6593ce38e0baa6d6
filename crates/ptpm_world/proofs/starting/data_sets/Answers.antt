use Rattle.ptpm_world.proofs.Common.{arith, ap, length, length-map, DataSetsValue, clock_value, port_data_set}
use Rattle.ptpm_data.proofs.StartLemmas.{started_by}
use Rattle.ptpm_world.proofs.starting.data_sets.Goals as goal

pub returns-clause-sets : goal.returns-clause-sets
returns-clause-sets c = grind (arith, started_by)

pub returns-clause-few : goal.returns-clause-few
returns-clause-few c =
    let sets = returns-clause-sets c in
    omega (arith, ap (λ (d : DataSetsValue). length d.ports) sets, length-map (clock_value c.args.clock.now).ports port_data_set, c.requires.few_ports)
