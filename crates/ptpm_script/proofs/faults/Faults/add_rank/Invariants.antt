use Rattle.toml.specs.View.{view}
use Rattle.ptpm_script.specs.Marks.{in_port}
use Rattle.ptpm_script.specs.StartFaults.{ranked}
use Rattle.ptpm_script.proofs.Loops.{ByNumber}
use Rattle.ptpm_script.proofs.faults.Faults.add_rank.Given as goal

abbrev pub invariant-loop-index : goal.invariant-loop-index
invariant-loop-index l = ByNumber view (λ n d. ranked l.wanted (in_port l.clock.number n) d) l.initial.self l.self l.index l.ports
