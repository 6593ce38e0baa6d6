use Rattle.std.proofs.Common.{◌≡◌}
use Rattle.ptpm_schedule.proofs.traffic.Traffic.draw_frames.Given as goal

-- no line is written
abbrev pub invariant-loop-sent : goal.invariant-loop-sent
invariant-loop-sent l = l.self.lines ≡ l.initial.self.lines
