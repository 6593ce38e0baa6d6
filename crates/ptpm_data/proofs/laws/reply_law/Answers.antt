use Rattle.std.proofs.Common.{arith, refl}
use Rattle.ptpm_data.specs.Replies.{reply_to, reply_of}
use Rattle.ptpm_data.proofs.ReplyLemmas.{reply_of-one, reply_of-outcomes, reply_of-count}
use Rattle.ptpm_data.proofs.Keeping.{changed_by-ports, changed_by-sized}
use Rattle.ptpm_data.proofs.laws.reply_law.Goals as goal

pub returns-clause-action : goal.returns-clause-action
unfolding reply_to reply_of
returns-clause-action c = λ q rights d. refl

pub returns-clause-id : goal.returns-clause-id
unfolding reply_to reply_of
returns-clause-id c = λ q rights d. refl

pub returns-clause-one_answer : goal.returns-clause-one_answer
unfolding reply_to
returns-clause-one_answer c = grind (arith, reply_of-one, changed_by-ports, changed_by-sized)

pub returns-clause-outcomes : goal.returns-clause-outcomes
unfolding reply_to
returns-clause-outcomes c = grind (arith, reply_of-outcomes, changed_by-sized)

pub returns-clause-some_answer : goal.returns-clause-some_answer
unfolding reply_to
returns-clause-some_answer c = grind (arith, reply_of-count, changed_by-ports, changed_by-sized)

pub returns-clause-few_answers : goal.returns-clause-few_answers
unfolding reply_to
returns-clause-few_answers c = grind (arith, reply_of-count, changed_by-ports, changed_by-sized)
