use Rattle.toml.specs.View.{view}
use Rattle.ptpm_script.specs.Marks.{spot_of}
use Rattle.ptpm_script.specs.ShapeFaults.{right_marks}
use Rattle.ptpm_script.proofs.Loops.{ByOthers}
use Rattle.ptpm_script.proofs.faults.Faults.add_bad_rights.Given as goal

abbrev pub invariant-loop-index : goal.invariant-loop-index
invariant-loop-index l = ByOthers view (right_marks (spot_of l.place)) l.initial.self l.self l.index l.items
