use Rattle.ptpm_world.proofs.Common.{◌-◌, flat_map, range_with_len, Appends, port_line}
use Rattle.ptpm_world.proofs.trace.write_sets.Given as goal

-- the ports so far are written
abbrev pub invariant-loop-port : goal.invariant-loop-port
invariant-loop-port g l =
    Appends (g.W.Write.contents l.initial.out) (g.W.Write.contents l.out) (flat_map (port_line l.name l.sets) (range_with_len 1 (l.port - 1)))
