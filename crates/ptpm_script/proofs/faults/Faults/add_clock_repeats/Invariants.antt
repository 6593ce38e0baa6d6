use Rattle.ptpm_script.specs.Heads.{clock_value}
use Rattle.ptpm_script.specs.RepeatFaults.{clock_repeats}
use Rattle.ptpm_script.proofs.Loops.{ByOthers}
use Rattle.ptpm_script.proofs.faults.Faults.add_clock_repeats.Given as goal

abbrev pub invariant-loop-index : goal.invariant-loop-index
invariant-loop-index l = ByOthers clock_value clock_repeats l.initial.self l.self l.index l.clocks
