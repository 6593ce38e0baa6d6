use Rattle.std.proofs.Common.{Some, ap, arith, sym, slice_get, ◌∙◌}
use Rattle.std.specs.Prelude.{option_map}
use Rattle.std.proofs.lemmas.Option.{slice_get-map}
use Rattle.ptpm_table.specs.KeptMessages.{KeptValue, answer_in, pieces}
use Rattle.ptpm_table.proofs.KeptMessageLaws.{length_answers}
use Rattle.ptpm_table.proofs.slot.Kept.answer.Goals as goal

pub message_at-requires-clause-place : goal.message_at-requires-clause-place
message_at-requires-clause-place c = grind (arith, length_answers)

pub returns : goal.returns
returns c =
    let k = c.self.inside in
    let ms = pieces k.reply.sizes k.reply.octets in
    ap (λ (v : KeptValue). slice_get v.entry.reply.answers c.args.place) (sym c.self.view_is)
    ∙ slice_get-map (answer_in k.of_port) ms c.args.place
    ∙ ap (option_map (answer_in k.of_port)) ((λ i. slice_get (pieces (sym c.sizes-sizes.ensures.value i) (sym c.octets-messages.ensures.value i)) c.args.place) ∙ c.message_at.ensures)
    ∙ ap Some (sym c.answer_in.ensures)
