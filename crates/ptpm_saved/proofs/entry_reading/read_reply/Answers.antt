use Rattle.std.proofs.Common.{◌∙◌, List, All, ap, subst, sym}
use Rattle.ptpm_codec.specs.Message.{IsDataField}
use Rattle.ptpm_codec.specs.declared.message.Action.{Action}
use Rattle.ptpm_data.specs.ManagementId.{is_of_port}
use Rattle.ptpm_data.specs.Reply.{Answer, answer_of}
use Rattle.ptpm_data.specs.Request.{RequestValue}
use Rattle.ptpm_table.specs.Entries.{FitsAnswer}
use Rattle.ptpm_table.proofs.KeptMessageLaws.{All-unmap}
use Rattle.std.proofs.lemmas.List.Elements.{All-map}
use Rattle.ptpm_saved.proofs.ReadingLemmas.{keepable_reply, not_fitting, reply_there}
use Rattle.ptpm_saved.proofs.entry_reading.read_reply.Goals as goal

pub returns-then-not-fit_answers-clause-found : goal.returns-then-not-fit_answers-clause-found
returns-then-not-fit_answers-clause-found c = λ n r rest keep fits few is.
    let q = c.args.request.now in
    let b = c.is_of_port-of_port.result in
    let action = ap (λ (v : RequestValue). v.action) c.request.view_is in
    not_fitting q r n b c.in_ok-count.count.now c.args.octets.now c.in_ok-count.octets.now rest c.in_ok-octets.octets.now c.read_answers.new.room.answers
    c.fit_answers.result
    (c.is_of_port-of_port.ensures ∙ ap (λ (v : RequestValue). is_of_port v.id) c.request.view_is)
    keep fits c.in_ok-count.ensures.cases.0 is c.in_ok-octets.ensures.found
    (λ all. c.fit_answers.ensures.1 (subst (λ (a : Action). All (λ x. FitsAnswer b a (answer_of x)) c.as_slice.result.now) (sym action)
    (All-unmap (FitsAnswer b q.action) answer_of c.as_slice.result.now (subst (λ (l : List Answer). All (FitsAnswer b q.action) l) (sym c.as_slice.ensures) all))))
    c.if-not-fit_answers.true

pub returns-clause-keepable : goal.returns-clause-keepable
returns-clause-keepable c = λ n.
    let q = c.args.request.now in
    let b = c.is_of_port-of_port.result in
    let action = ap (λ (v : RequestValue). v.action) c.request.view_is in
    keepable_reply q n b c.read_answers.new.room.answers c.in_ok-count.count.now
    c.requires
    (c.is_of_port-of_port.ensures ∙ ap (λ (v : RequestValue). is_of_port v.id) c.request.view_is)
    (subst (λ (v : RequestValue). IsDataField v.octets) c.request.view_is (c.is_data_field.ensures.meaning.0 c.if-not-is_data_field.false))
    (c.fits_count.ensures.0 c.if-not-fits_count.false)
    c.in_ok-octets.ensures.count
    (subst (λ (l : List Answer). All (FitsAnswer b q.action) l) c.as_slice.ensures
    (All-map (FitsAnswer b q.action) answer_of c.as_slice.result.now
    (subst (λ (a : Action). All (λ x. FitsAnswer b a (answer_of x)) c.as_slice.result.now) action (c.fit_answers.ensures.0 c.if-not-fit_answers.false))))

pub returns-clause-found : goal.returns-clause-found
returns-clause-found c = λ n r rest keep fits few is.
    let q = c.args.request.now in
    let there = reply_there q r n c.is_of_port-of_port.result c.in_ok-count.count.now c.args.octets.now c.in_ok-count.octets.now rest c.in_ok-octets.octets.now
    c.read_answers.new.room.answers
    (c.is_of_port-of_port.ensures ∙ ap (λ (v : RequestValue). is_of_port v.id) c.request.view_is)
    keep fits c.in_ok-count.ensures.cases.0 is c.in_ok-octets.ensures.found in
    (there.reply, there.rest_is)
