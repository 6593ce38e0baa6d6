use Rattle.ptpm_world.proofs.Common.{take, flat_map, Appends, RunningClock, clock_lines}
use Rattle.ptpm_world.proofs.trace.write_data_sets.Given as goal

-- the clocks so far are written
abbrev pub invariant-loop-clock : goal.invariant-loop-clock
invariant-loop-clock g l =
    Appends (g.W.Write.contents l.initial.out) (g.W.Write.contents l.out) (flat_map (λ (s : RunningClock). clock_lines s.name s.agent.sets) (take l.clock-index l.world.clocks.items))
