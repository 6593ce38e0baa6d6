use Rattle.std.proofs.Common.{◌≡◌, drop, map}
use Rattle.toml.specs.View.{view}
use Rattle.ptpm_script.specs.NetworkText.{start_of_port}
use Rattle.ptpm_script.proofs.reading.start_of_port.Given as goal

-- none before this one is
abbrev pub invariant-loop-port : goal.invariant-loop-port
invariant-loop-port l = start_of_port (map view l.tables) l.number ≡ start_of_port (map view (drop l.port-index l.tables)) l.number
