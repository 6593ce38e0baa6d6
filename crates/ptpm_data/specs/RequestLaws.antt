-- The words of what holds of every request: who answers it, what an answer is, and what no request changes.
use Rattle.std.specs.Prelude.{◌≡◌, ℕ, ◌%◌, ◌≤◌, ⊤, Bool, true, false, List, [], ◌∷◌, length, Option}
use Rattle.ptpm_codec.specs.declared.message.Action.{Action}
use Rattle.ptpm_codec.specs.declared.message.Action.TheVariants as actions
use Rattle.ptpm_data.specs.declared.ports.TheConstants.{PORTS}
use Rattle.ptpm_data.specs.ManagementId.{is_of_port}
use Rattle.ptpm_data.specs.Request.{RequestValue}
use Rattle.ptpm_data.specs.Reply.{Outcome, Value, Done, Refused, ReplyValue}
use Rattle.ptpm_data.specs.Members.{DataSetsValue, HasPort}
use Rattle.ptpm_data.specs.DataField.{port_shown}

-- data sets of 1 to PORTS ports, whose identities and text have their sizes, as those of every clock have
pub record IsSized (d : DataSetsValue) : Type 0 where
  pub some_port : 1 ≤ length d.ports
  pub few_ports : length d.ports ≤ PORTS
  pub text : length d.description ≤ 128
  pub identity : length d.default.identity.0 ≡ 8
  pub parent : length d.parent.parent_port.clock.0 ≡ 8
  pub grandmaster : length d.parent.grandmaster.0 ≡ 8

-- a request for an id of the clock, or for one existing port
abbrev pub IsForOne : RequestValue → DataSetsValue → Type 0
IsForOne q d = is_of_port q.id ≡ true → HasPort q.port d

-- who answers it: that port, or the clock, which gives no port number
abbrev pub answerer : RequestValue → Option ℕ
answerer q = port_shown q.id q.port

-- the reply has one answer, of this port or of the clock
abbrev pub IsOneAnswer : Option ℕ → ReplyValue → Type 0
IsOneAnswer port reply = (outcome : Outcome) × (reply.answers ≡ record { port = port; outcome = outcome } ∷ [])

-- an even number of octets, at most N
pub record IsFieldWithin (limit : ℕ) (octets : List ℕ) : Type 0 where
  pub even : length octets % 2 ≡ 0
  pub small : length octets ≤ limit

-- a dataField has at most 26 octets if the id is of a port, and else at most 130
abbrev pub field_limit : Bool → ℕ
field_limit true = 26
field_limit false = 130

abbrev pub is_get_or_set : Action → Bool
is_get_or_set actions.Get = true
is_get_or_set actions.Set = true
is_get_or_set _ = false

-- a request is answered by a dataField under GET and SET, by Done under COMMAND, or by an error
abbrev pub IsOutcomeOf : RequestValue → Outcome → Type 0
IsOutcomeOf q (Value octets) = (is_get_or_set q.action ≡ true) × IsFieldWithin (field_limit (is_of_port q.id)) octets
IsOutcomeOf q Done = q.action ≡ actions.Command
IsOutcomeOf q (Refused error) = ⊤
