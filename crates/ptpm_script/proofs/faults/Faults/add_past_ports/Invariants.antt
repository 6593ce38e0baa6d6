use Rattle.ptpm_script.specs.Heads.{clock_value}
use Rattle.ptpm_script.specs.NameFaults.{clock_past_ports}
use Rattle.ptpm_script.proofs.Loops.{ByItself}
use Rattle.ptpm_script.proofs.faults.Faults.add_past_ports.Given as goal

abbrev pub invariant-loop-clock : goal.invariant-loop-clock
invariant-loop-clock l = ByItself clock_value clock_past_ports l.initial.self l.self l.clock-index l.clocks
