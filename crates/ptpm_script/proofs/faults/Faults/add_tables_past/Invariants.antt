use Rattle.toml.specs.View.{view}
use Rattle.ptpm_script.specs.NameFaults.{past_port}
use Rattle.ptpm_script.proofs.Loops.{ByNumber}
use Rattle.ptpm_script.proofs.faults.Faults.add_tables_past.Given as goal

abbrev pub invariant-loop-index : goal.invariant-loop-index
invariant-loop-index l = ByNumber view (past_port l.clock.number l.count) l.initial.self l.self l.index l.ports
