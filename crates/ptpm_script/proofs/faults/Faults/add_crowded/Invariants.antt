use Rattle.std.proofs.Common.{map}
use Rattle.ptpm_script.specs.Heads.{session_value}
use Rattle.ptpm_script.specs.LimitFaults.{manager_marks}
use Rattle.ptpm_script.proofs.Loops.{ByOthers}
use Rattle.ptpm_script.proofs.faults.Faults.add_crowded.Given as goal

abbrev pub invariant-loop-index : goal.invariant-loop-index
invariant-loop-index l = ByOthers session_value (manager_marks (map session_value l.sessions)) l.initial.self l.self l.index l.sessions
