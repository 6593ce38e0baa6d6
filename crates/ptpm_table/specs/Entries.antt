-- What is kept of each configured manager: the latest accepted request, with its number and its reply.
use Rattle.std.specs.Prelude.{◌≡◌, ℕ, ◌+◌, ◌≤◌, ◌%◌, Bool, true, false, List, length, Some, None, All}
use Rattle.std.specs.List.{list_any}
use Rattle.std.specs.FinMap.{FinMap, get}
use Rattle.ptpm_codec.specs.declared.identity.PortIdentity.{PortIdentity}
use Rattle.ptpm_codec.specs.declared.message.Action.{Action}
use Rattle.ptpm_codec.specs.declared.message.Action.TheVariants as actions
use Rattle.ptpm_codec.specs.Identity.{identity_cmp, same_identity}
use Rattle.ptpm_data.specs.declared.ports.TheConstants.{PORTS}
use Rattle.ptpm_data.specs.ManagementId.{is_of_port}
use Rattle.ptpm_data.specs.Request.{RequestValue}
use Rattle.ptpm_data.specs.Reply as reply
use Rattle.ptpm_data.specs.Reply.{Answer, Outcome, ReplyValue}
use Rattle.ptpm_codec.specs.Message.{reply_action}

pub record Entry : Type 0 where
  pub number : ℕ
  pub request : RequestValue
  pub reply : ReplyValue

-- from a manager to what is kept of it
abbrev pub Entries : Type 0
Entries = FinMap identity_cmp Entry

-- one of the configured managers
abbrev pub is_known : PortIdentity → List PortIdentity → Bool
is_known who managers = list_any (same_identity who) managers

-- the manager has an entry of this number
pub record HasEntry (entries : Entries) (who : PortIdentity) (n : ℕ) : Type 0 where
  pub entry : Entry
  pub is : get entries who ≡ Some entry
  pub number_is : entry.number ≡ n

-- The messages that a place has, and those of the manager's kept reply, are no more than the place takes. A reply has one for
-- each answer.
abbrev pub HasRoom : Entries → PortIdentity → ℕ → ℕ → Type 0
HasRoom entries who held most = (e : Entry) → get entries who ≡ Some e → held + length e.reply.answers ≤ most

-- each of these kept replies has this many answers at most
abbrev pub HaveAnswers : ℕ → List (PortIdentity × Entry) → Type 0
HaveAnswers most es = All (λ e. length e.1.reply.answers ≤ most) es

-- The manager has an entry of this number, whose reply has this many answers at most. An empty place for as many messages has
-- room for it.
pub record CanResend (most : ℕ) (entries : Entries) (who : PortIdentity) (n : ℕ) : Type 0 where
  pub kept : HasEntry entries who n
  pub room : HasRoom entries who 0 most

-- to a request, with these answers
abbrev pub reply_with : RequestValue → List Answer → ReplyValue
reply_with q answers = record { action = reply_action q.action; id = q.id; answers = answers }

-- ---- which replies may be kept for a request

abbrev pub IsCommand : Action → Type 0
IsCommand action = action ≡ actions.Command

-- a refusal; the success of a COMMAND; or, to another request, a dataField of even size and at most this many octets
abbrev pub FitsOutcome : Action → ℕ → Outcome → Type 0
FitsOutcome action most (reply.Value octets) = (IsCommand action → ⊥) × (length octets % 2 ≡ 0) × (length octets ≤ most)
FitsOutcome action most reply.Done = IsCommand action
FitsOutcome action most (reply.Refused error) = Unit {0}

-- an answer of the clock has no port, and 130 octets at most; one of a port has one, and 26 at most
abbrev pub FitsAnswer : Bool → Action → Answer → Type 0
FitsAnswer false action a = (a.port ≡ None) × FitsOutcome action 130 a.outcome
FitsAnswer true action a = ((port : ℕ) × (a.port ≡ Some port)) × FitsOutcome action 26 a.outcome

-- one answer of the clock, or 1 to PORTS of ports
abbrev pub FitsCount : Bool → ℕ → Type 0
FitsCount false count = count ≡ 1
FitsCount true count = (1 ≤ count) × (count ≤ PORTS)

pub record FitsRequest (q : RequestValue) (r : ReplyValue) : Type 0 where
  pub action : r.action ≡ reply_action q.action
  pub id : r.id ≡ q.id
  pub count : FitsCount (is_of_port q.id) (length r.answers)
  pub answers : All (FitsAnswer (is_of_port q.id) q.action) r.answers
