use Rattle.std.proofs.Common.{◌≡◌}
use Rattle.ptpm_table.specs.KeptMessages.{envelope_of}
use Rattle.ptpm_table.proofs.KeptMessageLaws.{IsFilled}
use Rattle.ptpm_table.proofs.kept_messages.encode_each.Given as goal

abbrev pub invariant-loop-answer : goal.invariant-loop-answer
invariant-loop-answer l = record {
  filled : IsFilled l.of_port (envelope_of l.exchange) l.answers l.kept.sizes l.kept.octets l.answer-index;
  most : l.kept.most ≡ l.initial.kept.most;
}
