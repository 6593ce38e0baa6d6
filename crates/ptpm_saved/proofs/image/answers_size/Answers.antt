use Rattle.std.proofs.Common.{ap, arith, length, sym}
use Rattle.ptpm_data.specs.ManagementId.{is_of_port}
use Rattle.ptpm_table.specs.Lending.{lent_answer}
use Rattle.ptpm_saved.proofs.ImageLemmas.{answer_at, answer_small, answers_within, given, no_answers, reply_small}
use Rattle.ptpm_saved.proofs.image.answers_size.Goals as goal

pub loop-place-init : goal.loop-place-init
loop-place-init c = ap length (sym no_answers)

pub answer_size-size-requires : goal.answer_size-size-requires
answer_size-size-requires c =
    let e = c.args.entry.now.entry in
    answer_small (is_of_port e.request.id) e.request.action (lent_answer c.answer.result)
    (answer_at e.request e.reply c.loop-place.place (lent_answer c.answer.result) c.requires.fits c.answer.ensures)

pub overflow_add-size : goal.overflow_add-size
overflow_add-size c =
    let e = c.args.entry.now.entry in
    let one = given e.reply.answers c.loop-place.place (lent_answer c.answer.result) c.answer.ensures in
    omega (arith, c.loop-place.invariant, c.answer_size-size.ensures, one.room, reply_small e.request e.reply c.requires.fits)

pub loop-place-preserved : goal.loop-place-preserved
loop-place-preserved c =
    let one = given c.args.entry.now.entry.reply.answers c.loop-place.place (lent_answer c.answer.result) c.answer.ensures in
    omega (arith, c.loop-place.invariant, c.answer_size-size.ensures, one.size)

pub returns-clause-small : goal.returns-clause-small
returns-clause-small c =
    let e = c.args.entry.now.entry in
    omega (arith, c.loop-place.invariant, answers_within e.reply.answers c.loop-place.place, reply_small e.request e.reply c.requires.fits)
