use Rattle.std.proofs.Common.{[]}
use Rattle.ptpm_schedule.specs.Going.{Goes}
use Rattle.ptpm_schedule.proofs.traffic.Traffic.go_on_until.Given as goal

-- the network went on so far
abbrev pub invariant-loop : goal.invariant-loop
invariant-loop g l =
    Goes [] l.initial.world l.world (g.W.Write.contents l.initial.out) (g.W.Write.contents l.out) l.initial.self.lines l.self.lines
