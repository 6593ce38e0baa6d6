use Rattle.std.proofs.Common.{◌≡◌, drop, map}
use Rattle.ptpm_script.specs.Rules.{kind_of, key_rule}
use Rattle.ptpm_script.proofs.rules.kind_of.Given as goal

abbrev pub invariant-loop-rule : goal.invariant-loop-rule
invariant-loop-rule l = kind_of (map key_rule l.rules) l.key ≡ kind_of (map key_rule (drop l.rule-index l.rules)) l.key
