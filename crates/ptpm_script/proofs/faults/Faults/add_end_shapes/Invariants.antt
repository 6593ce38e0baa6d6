use Rattle.toml.specs.View.{view}
use Rattle.ptpm_script.specs.Marks.{spot_of}
use Rattle.ptpm_script.specs.ShapeFaults.{end_marks}
use Rattle.ptpm_script.proofs.Loops.{ByNumber}
use Rattle.ptpm_script.proofs.faults.Faults.add_end_shapes.Given as goal

abbrev pub invariant-loop-index : goal.invariant-loop-index
invariant-loop-index l = ByNumber view (end_marks (spot_of l.place)) l.initial.self l.self l.index l.items
