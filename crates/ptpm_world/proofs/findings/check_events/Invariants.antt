use Rattle.ptpm_world.proofs.Common.{◌≤◌, ◌+◌, ◌-◌, left_in}
use Rattle.ptpm_world.specs.Findings.{IsCounted}
use Rattle.ptpm_world.proofs.ScriptLemmas.{ChecksOn}
use Rattle.ptpm_world.specs.Lines.{line_count}
use Rattle.ptpm_world.proofs.findings.check_events.Given as goal

-- No more lines were counted here than in all that was read. What was found is counted, and what is left has the fault that all
-- had.
abbrev pub invariant-loop-number : goal.invariant-loop-number
invariant-loop-number g l =
    record {
      few : l.number ≤ line_count l.script;
      counted : IsCounted l.initial.findings → IsCounted l.findings;
      checks : ChecksOn l.initial.findings.first l.findings.first (line_count l.initial.script + 1) (line_count l.script + 1) (l.number + 1)
          (left_in g.R.Read.remaining l.initial.script) (left_in g.R.Read.remaining l.script);
    }

abbrev pub decreases-loop-number : goal.decreases-loop-number
decreases-loop-number g l = 2000000 - line_count l.script
