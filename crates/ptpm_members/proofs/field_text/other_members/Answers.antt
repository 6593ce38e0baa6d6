use Rattle.std.proofs.Common.{sym, ◌∙◌}
use Rattle.std.proofs.lemmas.List.Elements.{All-same}
use Rattle.ptpm_members.specs.FieldText.{IsPlaced}
use Rattle.ptpm_members.proofs.Placed.{placed_in_other}
use Rattle.ptpm_members.proofs.field_text.other_members.Goals as goal

pub returns-in-Some-clause-placed : goal.returns-in-Some-clause-placed
returns-in-Some-clause-placed c =
    All-same (IsPlaced c.args.octets.now) _ _ c.fields.ensures
    (placed_in_other c.in-Some.other c.args.octets.now (sym c.is_whole.ensures ∙ c.if-is_whole.true))
