-- What a GET is answered, whoever asks.
use Rattle.std.proofs.Common.{arith, ◌≡◌, refl}
use Rattle.std.specs.Int.Bits.{and_zero_r}
use Rattle.ptpm_data.specs.declared.rights.Rights.{Rights}
use Rattle.ptpm_data.specs.ManagementId.{RowValue}
use Rattle.ptpm_data.specs.Members.{DataSetsValue}
use Rattle.ptpm_data.specs.Request.{RequestValue}
use Rattle.ptpm_data.specs.Refusals.{row_refusal}
use Rattle.ptpm_data.specs.Rights.{no_rights}
use Rattle.ptpm_data.specs.Replies.{read_reply_to, reply_to, reply_of, read_refusal}
use Rattle.ptpm_data.proofs.Keeping.{changed_by-get}
use Rattle.ptpm_data.proofs.ReplyLemmas.{reply_of-one, reply_of-outcomes, reply_of-count}
use Rattle.ptpm_codec.specs.declared.message.Action.TheVariants as actions
use Rattle.ptpm_data.proofs.laws.read_reply_law.Goals as goal

module _ (q : RequestValue) (rights : Rights) (get : q.action ≡ actions.Get) where
  without_right : (e : RowValue) → row_refusal e q no_rights ≡ row_refusal e q rights
  unfolding row_refusal
  without_right e = rw (get, and_zero_r rights.0) refl

read-as-numbered : (q : RequestValue) (rights : Rights) (d : DataSetsValue)
    → q.action ≡ actions.Get
    → read_reply_to q d ≡ reply_to q rights d
unfolding read_reply_to reply_to
read-as-numbered q rights d get = grind (arith, changed_by-get, without_right)

pub returns-clause-action : goal.returns-clause-action
unfolding read_reply_to reply_of
returns-clause-action c = λ q d. refl

pub returns-clause-id : goal.returns-clause-id
unfolding read_reply_to reply_of
returns-clause-id c = λ q d. refl

pub returns-clause-one_answer : goal.returns-clause-one_answer
unfolding read_reply_to
returns-clause-one_answer c = λ q d s one. reply_of-one q (read_refusal q) d one s.few_ports

pub returns-clause-outcomes : goal.returns-clause-outcomes
unfolding read_reply_to
returns-clause-outcomes c = λ q d s request. reply_of-outcomes q (read_refusal q) d request s

pub returns-clause-some_answer : goal.returns-clause-some_answer
unfolding read_reply_to
returns-clause-some_answer c = λ q d s target. (reply_of-count q (read_refusal q) d target s).0

pub returns-clause-few_answers : goal.returns-clause-few_answers
unfolding read_reply_to
returns-clause-few_answers c = λ q d s target. (reply_of-count q (read_refusal q) d target s).1

pub returns-clause-get : goal.returns-clause-get
returns-clause-get c = read-as-numbered
