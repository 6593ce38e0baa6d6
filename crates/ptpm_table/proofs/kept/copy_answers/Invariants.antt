use Rattle.std.proofs.Common.{◌≡◌, take, length}
use Rattle.ptpm_table.proofs.kept.copy_answers.Given as goal

abbrev pub invariant-loop-answer : goal.invariant-loop-answer
invariant-loop-answer l = record {
  copied : l.copies.items ≡ take l.answer-index l.answers;
  count : length l.copies.items ≡ l.answer-index;
}
