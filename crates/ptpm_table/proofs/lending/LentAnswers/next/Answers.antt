use Rattle.std.proofs.Common.{◌≡◌, List, Some, subst, sym, ℕ}
use Rattle.ptpm_codec.specs.Reading.{message_at, message_of}
use Rattle.ptpm_table.proofs.KeptMessageLaws.{first_reads}
use Rattle.ptpm_table.proofs.lending.LentAnswers.next.Goals as goal

pub kept_answer-answer-requires-clause-read : goal.kept_answer-answer-requires-clause-read
kept_answer-answer-requires-clause-read c =
    let k = c.self.inside in
    subst (λ (m : List ℕ). message_of m ≡ Some (message_at m)) (sym c.split_at.ensures.front)
    (first_reads k.of_port k.sizes.now k.messages.now c.self.invariant c.in-len1-up.len_at_least)
