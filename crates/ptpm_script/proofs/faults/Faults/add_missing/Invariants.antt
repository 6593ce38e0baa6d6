use Rattle.std.proofs.Common.{◌≡◌, ◌++◌, drop, map}
use Rattle.toml.specs.View.{table_view}
use Rattle.ptpm_script.specs.Rules.{key_rule}
use Rattle.ptpm_script.specs.KeyFaults.{missing_marks}
use Rattle.ptpm_script.specs.Marks.{spot_of}
use Rattle.ptpm_script.proofs.faults.Faults.add_missing.Given as goal

-- what was reported, and what the rules ahead will report, is all
abbrev pub invariant-loop-rule : goal.invariant-loop-rule
invariant-loop-rule l =
    l.self ++ missing_marks (spot_of l.at.place) (map key_rule (drop l.rule-index l.rules)) (table_view l.at.table.now)
    ≡ l.initial.self ++ missing_marks (spot_of l.at.place) (map key_rule l.rules) (table_view l.at.table.now)
