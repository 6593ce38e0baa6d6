use Rattle.std.proofs.Common.{◌≡◌, ◌++◌, drop, map}
use Rattle.ptpm_script.specs.Heads.{clock_value, session_value}
use Rattle.ptpm_script.specs.NetworkText.{session_of}
use Rattle.ptpm_script.proofs.reading.sessions_of.Given as goal

-- what is made, and what those ahead will make, is all
abbrev pub invariant-loop-head : goal.invariant-loop-head
invariant-loop-head l =
    l.sessions.items ++ map (session_of (map clock_value l.clocks)) (map session_value (drop l.head-index l.heads))
    ≡ map (session_of (map clock_value l.clocks)) (map session_value l.heads)
