use Rattle.toml.specs.View.{view}
use Rattle.ptpm_script.specs.RepeatFaults.{port_repeats}
use Rattle.ptpm_script.proofs.Loops.{ByOthers}
use Rattle.ptpm_script.proofs.faults.Faults.add_port_repeats.Given as goal

abbrev pub invariant-loop-index : goal.invariant-loop-index
invariant-loop-index l = ByOthers view (port_repeats l.clock.number) l.initial.self l.self l.index l.ports
