-- What a request is answered (IEEE 1588-2019, 15.5.3 and 15.5.4).
use Rattle.std.specs.Prelude.{ℕ, Bool, true, false, if◌then◌else◌, List, [], ◌∷◌, length, map, Option, Some, None}
use Rattle.std.specs.List.{filter, range_with_len}
use Rattle.ptpm_codec.specs.declared.message.Action.{Action}
use Rattle.ptpm_codec.specs.declared.message.Action.TheVariants as actions
use Rattle.ptpm_codec.specs.declared.error.ErrorId.{ErrorId}
use Rattle.ptpm_codec.specs.declared.error.ErrorId.TheVariants.{NotSupported}
use Rattle.ptpm_codec.specs.Message.{reply_action}
use Rattle.ptpm_data.specs.declared.rights.Rights.{Rights}
use Rattle.ptpm_data.specs.ManagementId.{is_of_port}
use Rattle.ptpm_data.specs.Request.{RequestValue}
use Rattle.ptpm_data.specs.Reply.{Outcome, Value, Done, Refused, Answer, ReplyValue}
use Rattle.ptpm_data.specs.Members.{DataSetsValue}
use Rattle.ptpm_data.specs.DataField.{data_field_at}
use Rattle.ptpm_data.specs.Rights.{no_rights}
use Rattle.ptpm_data.specs.Refusals.{refusal_of}
use Rattle.ptpm_data.specs.Changes.{is_named, changed_by}

-- the clock's ports that a target port means, in ascending order
unfoldable pub named_ports : ℕ → ℕ → List ℕ
named_ports port number_of_ports = filter (is_named port) (range_with_len 1 number_of_ports)

-- who answers: for an id of a port each named port, else the clock, which gives no port number
abbrev pub answerers : RequestValue → DataSetsValue → List (Option ℕ)
answerers q d = if is_of_port q.id then map Some (named_ports q.port (length d.ports)) else None ∷ []

-- What is answered to a request: why it is refused, if it is. If not, a COMMAND is done, and a GET and a SET are answered by
-- a dataField.
abbrev pub outcome : Option ErrorId → Action → List ℕ → Outcome
outcome (Some error) action octets = Refused error
outcome None actions.Command octets = Done
outcome None action octets = Value octets

-- the answer of a port, or of the clock
unfoldable pub answer : RequestValue → Option ErrorId → DataSetsValue → Option ℕ → Answer
answer q refusal d port = record { port = port; outcome = outcome refusal q.action (data_field_at q.id port d) }

-- the reply over the data sets as they are after the request
unfoldable pub reply_of : RequestValue → Option ErrorId → DataSetsValue → ReplyValue
reply_of q refusal d = record {
  action = reply_action q.action;
  id = q.id;
  answers = map (answer q refusal d) (answerers q d);
}

-- to a numbered request, with the rights of its manager
unfoldable pub reply_to : RequestValue → Rights → DataSetsValue → ReplyValue
reply_to q rights d = reply_of q (refusal_of q rights) (changed_by q rights d)

abbrev pub is_get : Action → Bool
is_get actions.Get = true
is_get _ = false

-- The refusal of any other request, which changes nothing. A GET needs no right. A SET and a COMMAND are not supported,
-- whatever they say (this project's profile).
abbrev pub read_refusal : RequestValue → Option ErrorId
read_refusal q = if is_get q.action then refusal_of q no_rights else Some NotSupported

unfoldable pub read_reply_to : RequestValue → DataSetsValue → ReplyValue
read_reply_to q d = reply_of q (read_refusal q) d
