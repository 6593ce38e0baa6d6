use Rattle.ptpm_world.proofs.Common.{◌≤◌, ◌+◌, ◌-◌, left_in}
use Rattle.ptpm_world.proofs.Reading.{ReadsOn}
use Rattle.ptpm_world.proofs.whole_script.read_events.Given as goal

-- each line has a number, and all lines come to the events so far and those of the lines that are left
abbrev pub invariant-loop-events : goal.invariant-loop-events
invariant-loop-events g l = record {
  few : l.number ≤ l.script.count;
  reads : ReadsOn l.events.items (l.initial.script.count + 1) (l.script.count + 1) (l.number + 1)
      (left_in g.R.Read.remaining l.initial.script)
      (left_in g.R.Read.remaining l.script);
}

abbrev pub decreases-loop-events : goal.decreases-loop-events
decreases-loop-events g l = 2000000 - l.script.count
