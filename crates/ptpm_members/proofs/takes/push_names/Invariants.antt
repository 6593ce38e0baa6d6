use Rattle.std.proofs.Common.{take}
use Rattle.std.specs.Prelude.{flat_map}
use Rattle.ptpm_members.specs.Takes.{next_name}
use Rattle.ptpm_members.proofs.takes.push_names.Given as goal

abbrev pub invariant-loop-number : goal.invariant-loop-number
invariant-loop-number g l =
    g.T.TextSink.pushed l.initial.sink (flat_map (next_name l.enumeration) (take l.number-index l.others)) l.sink
