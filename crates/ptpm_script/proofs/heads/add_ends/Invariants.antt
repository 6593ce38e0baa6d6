use Rattle.std.proofs.Common.{map}
use Rattle.toml.specs.View.{view}
use Rattle.ptpm_script.specs.Heads.{end_head, end_value}
use Rattle.ptpm_script.specs.Marks.{spot_of}
use Rattle.ptpm_script.proofs.Loops.{ByNumber}
use Rattle.ptpm_script.proofs.heads.add_ends.Given as goal

abbrev pub invariant-loop-index : goal.invariant-loop-index
invariant-loop-index l = ByNumber view (end_head (spot_of l.place)) (map end_value l.initial.ends.items) (map end_value l.ends.items) l.index l.values
