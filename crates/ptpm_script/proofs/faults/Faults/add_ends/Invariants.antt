use Rattle.std.proofs.Common.{map}
use Rattle.ptpm_script.specs.Heads.{clock_value, end_value, session_value}
use Rattle.ptpm_script.specs.NameFaults.{end_name_marks}
use Rattle.ptpm_script.proofs.Loops.{ByItself}
use Rattle.ptpm_script.proofs.faults.Faults.add_ends.Given as goal

abbrev pub invariant-loop-end : goal.invariant-loop-end
invariant-loop-end l = ByItself end_value (end_name_marks (map clock_value l.clocks) (map session_value l.sessions)) l.initial.self l.self l.end-index l.ends
