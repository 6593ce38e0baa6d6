-- The data sets of a clock's ports, wherever they lie.
use Rattle.std.specs.Prelude.{List}
use Rattle.ptpm_data.specs.declared.data_sets.PortDataSet.{PortDataSet}
use Rattle.ptpm_data.specs.declared.port_list.PortList.{PortList}
use Rattle.ptpm_data.specs.declared.port_list.PortList.TheVariants as lists

abbrev pub ports_in : PortList → List PortDataSet
ports_in (lists.Few ports) = ports.items
ports_in (lists.Many ports) = ports.items
