use Rattle.std.proofs.Common.{◌≡◌, ◌∷◌, ◌++◌, ◌∙◌, [], List, ap, append-nil, arith, length, length-append, sym}
use Rattle.ptpm_data.specs.ManagementId.{is_of_port}
use Rattle.ptpm_data.specs.Reply.{Answer}
use Rattle.ptpm_table.specs.Lending.{lent_answer}
use Rattle.ptpm_saved.specs.Image.{answer_image, answers_image, over}
use Rattle.ptpm_saved.proofs.ImageLemmas.{answer_at, answer_small, next_answer, no_answers}
use Rattle.ptpm_saved.proofs.WrittenLemmas.{over_none, over_on}
use Rattle.ptpm_saved.proofs.image.write_answers.Goals as goal

pub loop-answer-init : goal.loop-answer-init
loop-answer-init c = record {
  done = [];
  whole = c.answers-answers.ensures;
  place = sym (ap (λ xs. over c.args.at xs c.args.place.now) no_answers ∙ over_none c.args.at c.args.place.now);
  end = omega (arith, ap length no_answers);
}

pub write_answer-end-requires-clause-room : goal.write_answer-end-requires-clause-room
write_answer-end-requires-clause-room c =
    let all = c.args.entry.now.entry.reply.answers in
    let i = c.loop-answer.invariant in
    let one = next_answer all i.done c.loop-answer.answers c.next.new.self (lent_answer c.in-Some.answer) i.whole c.in-Some.ensures in
    omega (arith, i.end, one.room, c.requires.room, c.loop-answer.auto.place)

pub write_answer-end-requires-clause-small : goal.write_answer-end-requires-clause-small
write_answer-end-requires-clause-small c =
    let e = c.args.entry.now.entry in
    let i = c.loop-answer.invariant in
    let one = next_answer e.reply.answers i.done c.loop-answer.answers c.next.new.self (lent_answer c.in-Some.answer) i.whole c.in-Some.ensures in
    answer_small (is_of_port e.request.id) e.request.action (lent_answer c.in-Some.answer)
    (answer_at e.request e.reply (length i.done) (lent_answer c.in-Some.answer) c.requires.keepable.fits one.there)

pub loop-answer-preserved : goal.loop-answer-preserved
loop-answer-preserved c =
    let all = c.args.entry.now.entry.reply.answers in
    let i = c.loop-answer.invariant in
    let a = lent_answer c.in-Some.answer in
    let first = c.args.place.now in
    let at = c.args.at in
    let one = next_answer all i.done c.loop-answer.answers c.next.new.self a i.whole c.in-Some.ensures in
    record {
      done = i.done ++ a ∷ [];
      whole = one.so_far;
      place =
          c.write_answer-end.ensures.place ∙ ap (over c.loop-answer.end (answer_image a)) i.place
          ∙ over_on at c.loop-answer.end (answers_image i.done) (answer_image a) first i.end
          (omega (arith, i.end, one.room, c.requires.room))
          ∙ ap (λ l. over at l first) (sym one.on);
      end = omega (arith, c.write_answer-end.ensures.end, i.end, ap length one.on, length-append (answers_image i.done) (answer_image a));
    }

pub loop-answer-smaller : goal.loop-answer-smaller
loop-answer-smaller c = omega (arith, ap length c.in-Some.ensures)

pub returns-clause-place : goal.returns-clause-place
returns-clause-place c =
    let i = c.loop-answer.invariant in
    let all : i.done ≡ c.args.entry.now.entry.reply.answers =
    sym (append-nil i.done) ∙ (ap (λ (l : List Answer). i.done ++ l) (sym c.in_default.ensures) ∙ i.whole) in
    i.place ∙ ap (λ (l : List Answer). over c.args.at (answers_image l) c.args.place.now) all

pub returns-clause-end : goal.returns-clause-end
returns-clause-end c =
    let i = c.loop-answer.invariant in
    let all : i.done ≡ c.args.entry.now.entry.reply.answers =
    sym (append-nil i.done) ∙ (ap (λ (l : List Answer). i.done ++ l) (sym c.in_default.ensures) ∙ i.whole) in
    omega (arith, i.end, ap (λ (l : List Answer). length (answers_image l)) all)
