use Rattle.std.proofs.Common.{take}
use Rattle.ptpm_plan.proofs.Surveys.{HasClocks, HasPorts}
use Rattle.ptpm_plan.proofs.answers.Answers.found.Given as goal

-- what was found so far is of the answers so far
abbrev pub invariant-loop-answer : goal.invariant-loop-answer
invariant-loop-answer l =
    HasClocks l.self.list.items (take l.answer-index l.self.list.items) l.surveyed.clocks.items
    × HasPorts l.self.list.items (take l.answer-index l.self.list.items) l.surveyed.ports.items
