use Rattle.std.proofs.Common.{◌≡◌, map, take}
use Rattle.serde_json.specs.Data.{string}
use Rattle.serde_json.specs.View.{view}
use Rattle.ptpm_message_json.proofs.columns.texts.Given as goal

-- the texts so far are values
abbrev pub invariant-loop-text : goal.invariant-loop-text
invariant-loop-text l = map view l.values.items ≡ map (λ t. string t.now) (take l.text-index l.texts)
