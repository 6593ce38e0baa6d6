use Rattle.std.proofs.Common.{rules}
use Rattle.ptpm_data.specs.Reply.{Answer, answer_of}
use Rattle.ptpm_table.specs.Rendering.{IsEvenOutcome}
use Rattle.ptpm_table.proofs.KeptMessageLaws.{All-unmap}
use Rattle.ptpm_table.proofs.rendering.render.Goals as goal

pub render_answers-requires-clause-even : goal.render_answers-requires-clause-even
render_answers-requires-clause-even c = All-unmap (λ (a : Answer). IsEvenOutcome a.outcome) answer_of c.as_slice-answers.result.now (search rules)
