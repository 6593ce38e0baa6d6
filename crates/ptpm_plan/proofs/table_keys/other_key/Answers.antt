use Rattle.std.proofs.Common.{◌∙◌, ap, not, option_map, string_bytes, String, Global}
use Rattle.std.specs.List.{find}
use Rattle.ptpm_plan.specs.FileText.{is_key}
use Rattle.ptpm_plan.proofs.Keys.{other_key_found}
use Rattle.ptpm_plan.proofs.table_keys.other_key.Goals as goal

pub loop-key-init : goal.loop-key-init
loop-key-init c =
    ap (λ ks. option_map string_bytes (find (λ (k : String Global). not (is_key c.args.kind (string_bytes k))) ks)) (c.into_iter-key-iterator.ensures.into_iter_gives ∙ c.keys-key-items.ensures.rest)
    ∙ other_key_found c.args.kind c.args.table.now.entries
