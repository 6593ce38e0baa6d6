use Rattle.std.proofs.Common.{◌≡◌, drop}
use Rattle.ptpm_schedule.specs.Scheduled.{unasked}
use Rattle.ptpm_schedule.proofs.scheduling.judge.Given as goal

-- the lines from here on have the fault that all have
abbrev pub invariant-loop-line : goal.invariant-loop-line
invariant-loop-line l = unasked (drop l.line-index l.lines) ≡ unasked l.lines
