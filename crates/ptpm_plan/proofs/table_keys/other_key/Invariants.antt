-- The first key that is none is among those that are ahead.
use Rattle.std.proofs.Common.{◌≡◌, not, option_map, string_bytes}
use Rattle.std.specs.List.{find}
use Rattle.toml.specs.View.{table_view}
use Rattle.ptpm_plan.specs.FileText.{is_key, other_key}
use Rattle.ptpm_plan.proofs.table_keys.other_key.Given as goal

abbrev pub invariant-loop-key : goal.invariant-loop-key
invariant-loop-key l =
    option_map string_bytes (find (λ k. not (is_key l.kind (string_bytes k))) l.key-iterator) ≡ other_key l.kind (table_view l.table)
