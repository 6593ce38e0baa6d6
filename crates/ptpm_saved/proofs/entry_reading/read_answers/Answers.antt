use Rattle.std.proofs.Common.{◌∙◌, ap, arith}
use Rattle.ptpm_data.specs.Reply.{answer_of}
use Rattle.ptpm_saved.specs.AnswerRoom.{RoomValue}
use Rattle.ptpm_saved.proofs.ReadingLemmas.{all_read, answer_read, no_answer, none_are_read}
use Rattle.ptpm_saved.proofs.entry_reading.read_answers.Goals as goal

pub loop-place-init : goal.loop-place-init
loop-place-init c = record {
  read = none_are_read c.args.of_port c.args.count c.args.octets.now c.clear.new.self.answers (ap (λ (r : RoomValue). r.answers) c.clear.ensures);
  most = ap (λ (r : RoomValue). r.most) c.clear.ensures;
}

pub returns-in_err-answer-clause-found : goal.returns-in_err-answer-clause-found
returns-in_err-answer-clause-found c = λ xs r size ports fits small is.
    absurd (no_answer c.args.of_port c.args.count c.args.octets.now c.loop-place.room.answers c.loop-place._place c.loop-place.octets.now
    c.loop-place.invariant.read c.loop-place-test.true c.in_err-answer.ensures.found xs r size ports fits small is)

pub push-requires : goal.push-requires
push-requires c = omega (arith, c.requires, c.loop-place.invariant.read.count_is, c.loop-place.invariant.most, c.loop-place-test.true)

pub loop-place-preserved : goal.loop-place-preserved
loop-place-preserved c = record {
  read = answer_read c.args.of_port c.args.count c.args.octets.now c.loop-place.room.answers c.push.new.self.answers c.loop-place._place c.loop-place.octets.now
      c.in_ok-answer.rest.now (answer_of c.in_ok-answer.answer) c.loop-place.invariant.read c.loop-place-test.true c.in_ok-answer.ensures.sound
      c.in_ok-answer.ensures.fits c.in_ok-answer.ensures.found (ap (λ (r : RoomValue). r.answers) c.push.ensures);
  most = ap (λ (r : RoomValue). r.most) c.push.ensures ∙ c.loop-place.invariant.most;
}

pub returns-clause-count : goal.returns-clause-count
returns-clause-count c = omega (arith, c.loop-place.invariant.read.count_is, c.loop-place-test.false, c.loop-place.auto._place-end)

pub returns-clause-sound : goal.returns-clause-sound
returns-clause-sound c = c.loop-place.invariant.read.sound

pub returns-clause-fits : goal.returns-clause-fits
returns-clause-fits c = c.loop-place.invariant.read.fits

pub returns-clause-found : goal.returns-clause-found
returns-clause-found c = λ xs r size ports fits small is.
    all_read c.args.of_port c.args.count c.args.octets.now c.loop-place.room.answers c.loop-place._place c.loop-place.octets.now c.loop-place.invariant.read
    (omega (arith, c.loop-place-test.false, c.loop-place.auto._place-end)) xs r size ports fits small is
