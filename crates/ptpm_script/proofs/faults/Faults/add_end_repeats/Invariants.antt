use Rattle.ptpm_script.specs.Heads.{end_value}
use Rattle.ptpm_script.specs.RepeatFaults.{end_repeats}
use Rattle.ptpm_script.proofs.Loops.{ByOthers}
use Rattle.ptpm_script.proofs.faults.Faults.add_end_repeats.Given as goal

abbrev pub invariant-loop-index : goal.invariant-loop-index
invariant-loop-index l = ByOthers end_value end_repeats l.initial.self l.self l.index l.ends
