use Rattle.std.proofs.Common.{map, ◌≡◌, ◌+◌, ◌++◌, length, take}
use Rattle.ptpm_data.specs.Reply.{answer_of}
use Rattle.ptpm_table.specs.Rendering.{rendered}
use Rattle.ptpm_table.proofs.rendering.render_answers.Given as goal

abbrev pub invariant-loop-answer : goal.invariant-loop-answer
invariant-loop-answer l = record {
  messages : l.out ≡ l.initial.out ++ rendered l.me l.heard (record { action = l.action; id = l.id; answers = map answer_of (take l.answer-index l.answers) }) l.ingress;
  count : length l.out ≡ length l.initial.out + l.answer-index;
}
