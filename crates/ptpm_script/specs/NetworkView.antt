-- A network as contracts see it.
use Rattle.ptpm_script.specs.declared.network.Network.{Network}
use Rattle.ptpm_script.specs.NetworkValue.{NetworkValue, value_of}

abbrev pub network_value : Network → NetworkValue
network_value n = value_of n.clocks.items n.sessions.items n.links.items
