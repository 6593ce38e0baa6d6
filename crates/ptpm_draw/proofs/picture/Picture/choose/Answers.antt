use Rattle.std.proofs.Common.{◌≡◌, rules}
use Rattle.std.specs.Prelude.{filter}
use Rattle.std.proofs.lemmas.Fn.{filter_same}
use Rattle.ptpm_draw.specs.Chosen.{is_chosen}
use Rattle.ptpm_draw.specs.declared.changes.Change.{Change}
use Rattle.ptpm_draw.specs.declared.picture.EventRow.{EventRow}
use Rattle.ptpm_draw.proofs.picture.Picture.choose.Goals as goal

pub returns : goal.returns
returns c =
    let rows : c.retain.new.self.items ≡ filter (λ (row : EventRow). is_chosen c.args.chosen row.line) c.args.self.now.rows.items =
    filter_same _ _ _ (λ x b f' k. search rules) _ _ c.retain.ensures.filtered in
    let changes : c.retain-2.new.self.items ≡ filter (λ (change : Change). is_chosen c.args.chosen change.line) c.args.self.now.changes.items =
    filter_same _ _ _ (λ x b f' k. search rules) _ _ c.retain-2.ensures.filtered in
    λ i. record { rows = rows i; messages = c.args.self.now.messages.items; changes = changes i }
