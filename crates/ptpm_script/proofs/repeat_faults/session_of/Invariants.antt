use Rattle.std.proofs.Common.{◌≡◌, drop, map}
use Rattle.ptpm_script.specs.Heads.{session_value}
use Rattle.ptpm_script.specs.RepeatFaults.{is_session_identity}
use Rattle.ptpm_script.proofs.repeat_faults.session_of.Given as goal

-- none before this one is
abbrev pub invariant-loop-session : goal.invariant-loop-session
invariant-loop-session l =
    is_session_identity (map session_value l.sessions) l.wanted ≡ is_session_identity (map session_value (drop l.session-index l.sessions)) l.wanted
