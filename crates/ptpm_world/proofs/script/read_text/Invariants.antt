use Rattle.ptpm_world.proofs.Common.{◌+◌, ◌-◌, string_bytes, left_in}
use Rattle.ptpm_world.proofs.Playing.{FileGoes}
use Rattle.ptpm_world.proofs.ScriptLemmas.{Kept}
use Rattle.ptpm_world.proofs.script.read_text.Given as goal

-- what is kept of the lines so far, and that they have no fault
abbrev pub invariant-loop-text : goal.invariant-loop-text
invariant-loop-text g l =
    let first = left_in g.R.Read.remaining l.initial.script in
    let now = left_in g.R.Read.remaining l.script in
    record {
      kept : Kept first now (string_bytes l.text);
      goes : FileGoes first (l.initial.script.count + 1) now (l.script.count + 1);
    }

abbrev pub decreases-loop-text : goal.decreases-loop-text
decreases-loop-text g l = 2000000 - l.script.count
