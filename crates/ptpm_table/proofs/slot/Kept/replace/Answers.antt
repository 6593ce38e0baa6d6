use Rattle.std.proofs.Common.{All, Bool, ◌≡◌, ap, length, map, refl, subst, sym}
use Rattle.ptpm_codec.specs.declared.message.Action.{Action}
use Rattle.ptpm_data.specs.Reply.{answer_of}
use Rattle.ptpm_data.specs.Request.{RequestValue}
use Rattle.ptpm_table.specs.Entries.{FitsAnswer, FitsCount, reply_with}
use Rattle.ptpm_table.proofs.KeptMessageLaws.{fitting_slots}
use Rattle.ptpm_table.proofs.slot.Kept.replace.Goals as goal

pub encode_each-requires-clause-count : goal.encode_each-requires-clause-count
encode_each-requires-clause-count c =
    let suits = fitting_slots c.args.request.now (reply_with c.args.request.now (map answer_of c.args.answers.now)) c.args.answers.now c.requires.fits refl in
    subst (λ b. FitsCount b (length c.args.answers.now)) (sym c.has_port-self-inside.ensures) suits.count

pub encode_each-requires-clause-suits : goal.encode_each-requires-clause-suits
encode_each-requires-clause-suits c =
    let suits = fitting_slots c.args.request.now (reply_with c.args.request.now (map answer_of c.args.answers.now)) c.args.answers.now c.requires.fits refl in
    let action : c.request.inside.action ≡ c.args.request.now.action = ap (λ (q : RequestValue). q.action) c.request.view_is in
    subst (λ (p : Bool × Action). All (λ a. FitsAnswer p.0 p.1 (answer_of a)) c.args.answers.now)
    (λ i. (sym c.has_port-self-inside.ensures i, sym action i)) suits.suits
