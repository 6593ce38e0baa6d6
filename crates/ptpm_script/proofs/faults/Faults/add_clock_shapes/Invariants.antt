use Rattle.toml.specs.View.{view}
use Rattle.ptpm_script.specs.ShapeFaults.{clock_marks}
use Rattle.ptpm_script.proofs.Loops.{ByNumber}
use Rattle.ptpm_script.proofs.faults.Faults.add_clock_shapes.Given as goal

abbrev pub invariant-loop-index : goal.invariant-loop-index
invariant-loop-index l = ByNumber view clock_marks l.initial.self l.self l.index l.clocks
