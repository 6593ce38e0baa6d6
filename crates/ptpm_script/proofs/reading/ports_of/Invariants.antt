use Rattle.std.proofs.Common.{◌≡◌, map}
use Rattle.std.specs.List.{range_with_len}
use Rattle.toml.specs.View.{view}
use Rattle.ptpm_script.specs.NetworkText.{start_of_port}
use Rattle.ptpm_script.proofs.reading.ports_of.Given as goal

abbrev pub invariant-loop-place : goal.invariant-loop-place
invariant-loop-place l = l.ports.items ≡ map (start_of_port (map view l.tables)) (range_with_len 1 l.place)
