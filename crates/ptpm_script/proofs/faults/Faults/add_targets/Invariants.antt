use Rattle.std.proofs.Common.{map}
use Rattle.ptpm_script.specs.Heads.{clock_value, session_value}
use Rattle.ptpm_script.specs.NameFaults.{target_marks}
use Rattle.ptpm_script.proofs.Loops.{ByItself}
use Rattle.ptpm_script.proofs.faults.Faults.add_targets.Given as goal

abbrev pub invariant-loop-session : goal.invariant-loop-session
invariant-loop-session l = ByItself session_value (target_marks (map clock_value l.clocks)) l.initial.self l.self l.session-index l.sessions
