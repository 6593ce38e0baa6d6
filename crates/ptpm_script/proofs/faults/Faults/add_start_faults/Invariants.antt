use Rattle.ptpm_script.specs.Heads.{clock_value}
use Rattle.ptpm_script.specs.StartFaults.{clock_start_marks}
use Rattle.ptpm_script.proofs.Loops.{ByItself}
use Rattle.ptpm_script.proofs.faults.Faults.add_start_faults.Given as goal

abbrev pub invariant-loop-clock : goal.invariant-loop-clock
invariant-loop-clock l = ByItself clock_value clock_start_marks l.initial.self l.self l.clock-index l.clocks
