use Rattle.std.proofs.Common.{map}
use Rattle.ptpm_script.specs.Heads.{clock_value, session_value}
use Rattle.ptpm_script.specs.RepeatFaults.{session_repeats}
use Rattle.ptpm_script.proofs.Loops.{ByOthers}
use Rattle.ptpm_script.proofs.faults.Faults.add_session_repeats.Given as goal

abbrev pub invariant-loop-index : goal.invariant-loop-index
invariant-loop-index l = ByOthers session_value (session_repeats (map clock_value l.clocks)) l.initial.self l.self l.index l.sessions
