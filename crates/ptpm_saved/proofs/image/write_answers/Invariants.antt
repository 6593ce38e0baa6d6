use Rattle.std.proofs.Common.{◌≡◌, ◌+◌, ◌++◌, List, length}
use Rattle.ptpm_data.specs.Reply.{Answer}
use Rattle.ptpm_saved.specs.Image.{answers_image, over}
use Rattle.ptpm_saved.proofs.image.write_answers.Given as goal

abbrev pub invariant-loop-answer : goal.invariant-loop-answer
invariant-loop-answer l = record {
  done : List Answer;
  whole : done ++ l.answers ≡ l.entry.entry.reply.answers;
  place : l.place ≡ over l.at (answers_image done) l.initial.place;
  end : l.end ≡ l.at + length (answers_image done);
}

abbrev pub decreases-loop-answer : goal.decreases-loop-answer
decreases-loop-answer l = length l.answers
