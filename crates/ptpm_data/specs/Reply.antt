-- A reply: its answers, of the clock or of ports.
use Rattle.std.specs.Prelude.{ℕ, List, map, Option}
use Rattle.ptpm_codec.specs.declared.error.ErrorId.{ErrorId}
use Rattle.ptpm_codec.specs.declared.message.Action.{Action}
use Rattle.ptpm_data.specs.declared.reply.What.{What}
use Rattle.ptpm_data.specs.declared.reply.What.TheVariants as whats
use Rattle.ptpm_data.specs.declared.reply.PortAnswer.{PortAnswer}
use Rattle.ptpm_data.specs.declared.reply.Reply.TheInside.{Inside}

-- a dataField, the success of a COMMAND, or why the request was refused
pub data Outcome : Type 0 where
  Value : (octets : List ℕ) → Outcome
  Done : Outcome
  Refused : (error : ErrorId) → Outcome

-- of a port, or of the clock
pub record Answer : Type 0 where
  pub port : Option ℕ
  pub outcome : Outcome

pub record ReplyValue : Type 0 where
  pub action : Action
  pub id : ℕ
  pub answers : List Answer

abbrev pub outcome_of : What → Outcome
outcome_of (whats.Value octets) = Value octets.items
outcome_of whats.Done = Done
outcome_of (whats.Refused error) = Refused error

abbrev pub answer_of : PortAnswer → Answer
answer_of a = record { port = a.port; outcome = outcome_of a.what }

abbrev pub reply_value : Inside → ReplyValue
reply_value r = record { action = r.action; id = r.id; answers = map answer_of r.answers.items }
