use Rattle.std.proofs.Common.{◌≡◌, drop, map}
use Rattle.ptpm_script.specs.Heads.{clock_value}
use Rattle.ptpm_script.specs.RepeatFaults.{is_clock_identity}
use Rattle.ptpm_script.proofs.repeat_faults.clock_of.Given as goal

-- none before this one is
abbrev pub invariant-loop-clock : goal.invariant-loop-clock
invariant-loop-clock l =
    is_clock_identity (map clock_value l.clocks) l.wanted ≡ is_clock_identity (map clock_value (drop l.clock-index l.clocks)) l.wanted
