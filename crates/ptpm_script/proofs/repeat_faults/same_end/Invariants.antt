use Rattle.std.proofs.Common.{◌≡◌, drop, map}
use Rattle.std.specs.List.{list_any}
use Rattle.ptpm_script.specs.Heads.{end_value}
use Rattle.ptpm_script.specs.RepeatFaults.{is_same_end}
use Rattle.ptpm_script.proofs.repeat_faults.same_end.Given as goal

-- none before this one is
abbrev pub invariant-loop-other : goal.invariant-loop-other
invariant-loop-other l =
    list_any (is_same_end (end_value l.end)) (map end_value l.ends) ≡ list_any (is_same_end (end_value l.end)) (map end_value (drop l.other-index l.ends))
