use Rattle.std.proofs.Common.{◌≡◌, ◌++◌, map}
use Rattle.toml.specs.View.{table_view, members_view}
use Rattle.ptpm_script.specs.Rules.{key_rule}
use Rattle.ptpm_script.specs.KeyFaults.{wrong_marks}
use Rattle.ptpm_script.specs.Marks.{spot_of}
use Rattle.ptpm_script.proofs.faults.Faults.add_wrong.Given as goal

-- what was reported, and what the entries ahead will report, is all
abbrev pub invariant-loop-key : goal.invariant-loop-key
invariant-loop-key l =
    (goal.iterator-loop-key).can_next l.key-iterator ×
    (goal.iterator-loop-key).is_finite l.key-iterator ×
    (l.self ++ wrong_marks (spot_of l.at.place) (map key_rule l.rules) (members_view l.key-iterator)
    ≡ l.initial.self ++ wrong_marks (spot_of l.at.place) (map key_rule l.rules) (table_view l.at.table.now))
