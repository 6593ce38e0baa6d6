use Rattle.ptpm_world.proofs.Common.{take, flat_map, Appends, RunningSession, session_lines}
use Rattle.ptpm_world.proofs.trace.write_reports.Given as goal

-- the sessions so far are written
abbrev pub invariant-loop-session : goal.invariant-loop-session
invariant-loop-session g l =
    Appends (g.W.Write.contents l.initial.out) (g.W.Write.contents l.out) (flat_map (λ (s : RunningSession). session_lines s.name s.reports.items) (take l.session-index l.world.sessions.items))
