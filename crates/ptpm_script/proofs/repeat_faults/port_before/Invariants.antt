use Rattle.std.proofs.Common.{◌≡◌, drop}
use Rattle.ptpm_script.specs.RepeatFaults.{is_number_of}
use Rattle.ptpm_script.proofs.repeat_faults.port_before.Given as goal

-- none before this one is
abbrev pub invariant-loop-index : goal.invariant-loop-index
invariant-loop-index l =
    is_number_of l.numbers l.wanted ≡ is_number_of (drop l.index l.numbers) l.wanted
