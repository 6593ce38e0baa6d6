use Rattle.std.proofs.Common.{◌≡◌, map, take}
use Rattle.ptpm_host.specs.Settings.{port_start}
use Rattle.ptpm_host.proofs.settings.port_starts.Given as goal

abbrev pub invariant-loop-port : goal.invariant-loop-port
invariant-loop-port l = l.starts.items ≡ map port_start (take l.port-index l.ports)
