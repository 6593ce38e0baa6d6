use Rattle.std.proofs.Common.{◌≤◌}
use Rattle.ptpm_script.proofs.value_text.QuotedDisplay.fmt.Given as goal

abbrev pub invariant-loop-character : goal.invariant-loop-character
invariant-loop-character g l =
    (goal.iterator-loop-character g).can_next l.character-iterator ×
    (goal.iterator-loop-character g).is_finite l.character-iterator ×
    (l.shown ≤ 48)
