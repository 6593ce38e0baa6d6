use Rattle.std.proofs.Common.{take}
use Rattle.ptpm_schedule.specs.Going.{Goes, asked_in}
use Rattle.ptpm_schedule.proofs.scheduling.play.Given as goal

-- the network went on so far, through what the lines so far ask for
abbrev pub invariant-loop-line : goal.invariant-loop-line
invariant-loop-line g l =
    Goes (asked_in (take l.line-index l.lines)) l.initial.world l.world (g.W.Write.contents l.initial.out) (g.W.Write.contents l.out)
    l.initial.traffic.lines l.traffic.lines
