use Rattle.std.specs.Prelude.{◌≡◌, drop}
use Rattle.ptpm_journal.specs.Journal.{all_allow}
use Rattle.ptpm_journal.proofs.ending.all_allow.Given as goal

-- those before allow it
abbrev pub invariant-loop-mark : goal.invariant-loop-mark
invariant-loop-mark l = all_allow l.ending (drop l.mark-index l.marks) ≡ all_allow l.ending l.marks
