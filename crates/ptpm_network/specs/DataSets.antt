-- What the network needs of data sets and replies.
use Rattle.std.specs.Prelude.{◌≡◌, ℕ, ◌<◌, ◌≤◌, ◌^◌, true, [], ◌∷◌, length, Option, Some, None}
use Rattle.std.specs.List.{AllByRecursion}
use Rattle.ptpm_codec.specs.Message.{IsDataField}
use Rattle.ptpm_data.specs.declared.ports.TheConstants.{PORTS}
use Rattle.ptpm_data.specs.ManagementId.{is_of_port}
use Rattle.ptpm_data.specs.Members.{DataSetsValue}
use Rattle.ptpm_data.specs.Reply as reply
use Rattle.ptpm_data.specs.Reply.{Answer, Outcome, ReplyValue}
use Rattle.ptpm_data.specs.Request.{RequestValue}
use Rattle.ptpm_codec.specs.Message.{reply_action}

-- the data sets of a clock of this many ports, 1 to PORTS: identities have eight octets, and the description fits
pub record AreDataSets (ports : ℕ) (d : DataSetsValue) : Type 0 where
  pub identity : length d.default.identity.0 ≡ 8
  pub parent : length d.parent.parent_port.clock.0 ≡ 8
  pub grandmaster : length d.parent.grandmaster.0 ≡ 8
  pub description : length d.description ≤ 128
  pub ports_are : length d.ports ≡ ports
  pub some_port : 1 ≤ ports
  pub few_ports : ports ≤ PORTS

-- ---- replies that can be sent

abbrev pub IsSendableOutcome : Outcome → Type 0
IsSendableOutcome (reply.Value octets) = IsDataField octets
IsSendableOutcome reply.Done = Unit {0}
IsSendableOutcome (reply.Refused error) = Unit {0}

abbrev pub IsPort : Option ℕ → Type 0
IsPort None = Unit {0}
IsPort (Some port) = port < 2 ^ 16

pub record IsSendable (a : Answer) : Type 0 where
  pub port : IsPort a.port
  pub outcome : IsSendableOutcome a.outcome

-- a reply to a request: its answers are messages
pub record Answers (q : RequestValue) (r : ReplyValue) : Type 0 where
  pub action : r.action ≡ reply_action q.action
  pub id : r.id ≡ q.id
  pub sendable : AllByRecursion IsSendable r.answers

-- the one port that a request is for, if its id is of a port
abbrev pub IsForOne : ℕ → RequestValue → Type 0
IsForOne ports q = is_of_port q.id ≡ true → (1 ≤ q.port) × (q.port ≤ ports)

-- one answer, of the request's port if its id is of a port
pub record HasOneAnswer (q : RequestValue) (r : ReplyValue) : Type 0 where
  pub answer : Answer
  pub is : r.answers ≡ answer ∷ []
  pub port : is_of_port q.id ≡ true → answer.port ≡ Some q.port
