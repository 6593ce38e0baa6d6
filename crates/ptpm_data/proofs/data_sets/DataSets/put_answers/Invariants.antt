use Rattle.std.proofs.Common.{map, Some, ◌-◌}
use Rattle.std.specs.List.{range_with_len}
use Rattle.ptpm_data.specs.Replies.{answer}
use Rattle.ptpm_data.proofs.data_sets.DataSets.put_answers.Given as goal

abbrev pub invariant-loop-port : goal.invariant-loop-port
invariant-loop-port g l =
    g.A.Answers.taken l.initial.answers (map (answer l.request l.refusal l.self) (map Some (range_with_len l.first (l.port - l.first)))) l.answers
