use Rattle.ptpm_world.proofs.Common.{◌≡◌, take, configured}
use Rattle.ptpm_world.proofs.starting.managers_of.Given as goal

abbrev pub invariant-loop-session : goal.invariant-loop-session
invariant-loop-session l = l.managers.items ≡ configured (take l.session-index l.sessions) l.place
