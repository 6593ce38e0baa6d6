-- How a `SlotTable` represents a kept reply, which is no promise. It is octets: the reply's messages one after the other, as they
-- answered the copy of the request that came in first. `keep` makes them as for one in domain 0 that has lost no hop and came in
-- at port 0.
use Rattle.std.specs.Prelude.{◌≡◌, ◌≤◌, ◌-◌, ℕ, ◌/◌, ◌%◌, ◌==◌, Bool, true, false, List, [], ◌∷◌, length, take, drop, Option, Some, None, if◌then◌else◌, is_some, slice_set}
use Rattle.ptpm_codec.specs.declared.error.ErrorId.{ErrorId}
use Rattle.ptpm_codec.specs.declared.error.ErrorId.TheVariants as errors
use Rattle.ptpm_codec.specs.declared.identity.ClockIdentity.{ClockIdentity}
use Rattle.ptpm_codec.specs.declared.identity.PortIdentity.{PortIdentity}
use Rattle.ptpm_codec.specs.declared.message.Action.{Action}
use Rattle.ptpm_codec.specs.declared.message.Action.TheVariants as actions
use Rattle.ptpm_codec.specs.declared.message.Body.{Body}
use Rattle.ptpm_codec.specs.declared.message.Body.TheVariants as bodies
use Rattle.ptpm_codec.specs.declared.message.Message.{Message}
use Rattle.ptpm_codec.specs.Canonical.{canonical}
use Rattle.ptpm_codec.specs.Message.{Fits, IsValid}
use Rattle.ptpm_codec.specs.Reading.{message_of}
use Rattle.ptpm_data.specs.Reply as reply
use Rattle.ptpm_data.specs.Reply.{Answer, Outcome}
use Rattle.ptpm_codec.specs.Message.{reply_action}
use Rattle.ptpm_table.specs.declared.heard.Heard.{Heard}
use Rattle.ptpm_table.specs.declared.kept_messages.Exchange.{Exchange}
use Rattle.ptpm_data.specs.declared.reply.PortAnswer.{PortAnswer}
use Rattle.ptpm_table.specs.Entries.{Entry}
use Rattle.ptpm_table.specs.Rendering.{reply_message}

-- ---- cutting

-- octets cut into pieces of these sizes
abbrev pub pieces : List ℕ → List ℕ → List (List ℕ)
pieces [] octets = []
pieces (s ∷ ss) octets = take s octets ∷ pieces ss (drop s octets)

-- the sizes are those of messages, and fill n octets
abbrev pub AreSizes : List ℕ → ℕ → Type 0
AreSizes [] n = n ≡ 0
AreSizes (s ∷ ss) n = ((54 ≤ s) × (s ≤ 184)) × (s ≤ n) × AreSizes ss (n - s)

-- ---- reading

abbrev pub error_of_number : ℕ → ErrorId
error_of_number n =
    if n == 0x0001 then errors.ResponseTooBig else if n == 0x0002 then errors.NoSuchId else if n == 0x0003 then errors.WrongLength
    else if n == 0x0004 then errors.WrongValue else if n == 0x0005 then errors.NotSetable else if n == 0x0006 then errors.NotSupported
    else errors.GeneralError

abbrev pub outcome_by : Action → List ℕ → Outcome
outcome_by actions.Get octets = reply.Value octets
outcome_by actions.Set octets = reply.Value octets
outcome_by actions.Response octets = reply.Value octets
outcome_by actions.Command octets = reply.Value octets
outcome_by actions.Acknowledge octets = reply.Done

abbrev pub outcome_of_body : Body → Outcome
outcome_of_body (bodies.Request action id octets) = reply.Done
outcome_of_body (bodies.Answer action id octets) = outcome_by action octets
outcome_of_body (bodies.Fault action error id text) = reply.Refused (error_of_number error)

abbrev pub outcome_in : Option Message → Outcome
outcome_in None = reply.Done
outcome_in (Some v) = outcome_of_body v.body

abbrev pub source_port : Option Message → ℕ
source_port None = 0
source_port (Some v) = v.source.port

-- of its source port if the id is of the ports, of the clock otherwise
abbrev pub port_in : Bool → Option Message → Option ℕ
port_in false v = None
port_in true v = Some (source_port v)

-- the answer that a message gives
abbrev pub answer_in : Bool → List ℕ → Answer
answer_in of_port m = record { port = port_in of_port (message_of m); outcome = outcome_in (message_of m) }

-- ---- what is kept

-- whose reply it is, to which request of whom
pub record Envelope : Type 0 where
  pub clock : ClockIdentity
  pub manager : PortIdentity
  pub number : ℕ
  pub action : Action
  pub id : ℕ

abbrev pub envelope_of : Exchange → Envelope
envelope_of x = record { clock = x.clock; manager = x.manager; number = x.number; action = reply_action x.action; id = x.id }

abbrev pub first_copy : Envelope → Heard
first_copy e = record { domain = 0; source = e.manager; number = e.number; starting_hops = 0; hops = 0 }

abbrev pub kept_message : Envelope → Answer → Message
kept_message e a = reply_message e.clock (first_copy e) e.action e.id 0 a

-- a copy of the request whose reply is kept
pub record IsCopyOf (e : Envelope) (heard : Heard) : Type 0 where
  pub source_is : heard.source ≡ e.manager
  pub number_is : heard.number ≡ e.number

-- the message of an answer, for a copy that came in at this port
abbrev pub sent_message : Envelope → Heard → ℕ → Answer → Message
sent_message e first at a = reply_message e.clock first e.action e.id at a

-- a message is spelled as it was sent for the copy that was answered first
pub record IsKeptMessage (e : Envelope) (of_port : Bool) (m : List ℕ) : Type 0 where
  pub first : Heard
  pub at : ℕ
  pub copy : IsCopyOf e first
  pub spelled : m ≡ canonical (sent_message e first at (answer_in of_port m))
  pub fits : Fits (sent_message e first at (answer_in of_port m))
  pub valid : IsValid (sent_message e first at (answer_in of_port m))

abbrev pub EachKept : Envelope → Bool → List (List ℕ) → Type 0
EachKept e of_port [] = Unit {0}
EachKept e of_port (m ∷ ms) = IsKeptMessage e of_port m × EachKept e of_port ms

pub record IsKeptReply (e : Envelope) (of_port : Bool) (sizes octets : List ℕ) : Type 0 where
  pub cut : AreSizes sizes (length octets)
  pub each : EachKept e of_port (pieces sizes octets)

-- ---- sending it again

-- with domainNumber, both hop fields, and if it is of the clock the source's portNumber written over
abbrev pub renewed : ℕ → Option ℕ → ℕ → List ℕ → List ℕ
renewed domain None hops m = slice_set (slice_set (slice_set m 4 domain) 44 hops) 45 hops
renewed domain (Some port) hops m =
    slice_set (slice_set (slice_set (slice_set (slice_set m 4 domain) 28 (port / 256)) 29 (port % 256)) 44 hops) 45 hops

abbrev pub port_for : Bool → ℕ → Option ℕ
port_for false ingress = Some ingress
port_for true ingress = None

-- what a slot keeps: an entry, of a manager, with the clock that replied, and for how many answers it has room
pub record KeptValue : Type 0 where
  pub clock : ClockIdentity
  pub manager : PortIdentity
  pub entry : Entry
  pub most : ℕ

-- the first answer is of a port
abbrev pub has_port : List PortAnswer → Bool
has_port [] = false
has_port (a ∷ rest) = is_some a.port
