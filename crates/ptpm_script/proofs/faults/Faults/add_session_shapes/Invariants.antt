use Rattle.toml.specs.View.{view}
use Rattle.ptpm_script.specs.ShapeFaults.{session_marks}
use Rattle.ptpm_script.proofs.Loops.{ByNumber}
use Rattle.ptpm_script.proofs.faults.Faults.add_session_shapes.Given as goal

abbrev pub invariant-loop-index : goal.invariant-loop-index
invariant-loop-index l = ByNumber view (session_marks l.version) l.initial.self l.self l.index l.sessions
