use Rattle.toml.specs.View.{view}
use Rattle.ptpm_script.specs.LimitFaults.{link_size_marks}
use Rattle.ptpm_script.proofs.Loops.{ByNumber}
use Rattle.ptpm_script.proofs.faults.Faults.add_link_sizes.Given as goal

abbrev pub invariant-loop-index : goal.invariant-loop-index
invariant-loop-index l = ByNumber view link_size_marks l.initial.self l.self l.index l.links
