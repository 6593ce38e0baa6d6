use Rattle.std.proofs.Common.{◌≡◌, ◌++◌, flat_map, map}
use Rattle.std.specs.List.{range_with_len}
use Rattle.toml.specs.View.{view}
use Rattle.ptpm_script.specs.StartFaults.{rank_marks}
use Rattle.ptpm_script.proofs.faults.Faults.add_port_starts.Given as goal

-- what was reported is of the ranks so far
abbrev pub invariant-loop-place : goal.invariant-loop-place
invariant-loop-place l =
    l.self ≡ l.initial.self ++ flat_map (rank_marks l.clock.number (map view l.ports)) (range_with_len 1 l.place)
