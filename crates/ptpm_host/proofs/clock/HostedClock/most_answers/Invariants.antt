use Rattle.std.proofs.Common.{◌≡◌, take}
use Rattle.ptpm_host.specs.MostSent.{most_answers}
use Rattle.ptpm_host.proofs.clock.HostedClock.most_answers.Given as goal

-- it is the number for the entries so far
abbrev pub invariant-loop-place : goal.invariant-loop-place
invariant-loop-place l = l.most ≡ most_answers (take l.place l.entries)
