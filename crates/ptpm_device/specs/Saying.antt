-- One turn of a clock with what its device says of it (this project's profile).
use Rattle.std.specs.Prelude.{ℕ, nat_le, List, [], ◌∷◌, length, if◌then◌else◌, Option, Some, None}
use Rattle.std.specs.FinMap.{insert}
use Rattle.ptpm_codec.specs.declared.error.ErrorId.{ErrorId}
use Rattle.ptpm_codec.specs.declared.error.ErrorId.TheVariants.{ResponseTooBig}
use Rattle.ptpm_codec.specs.declared.identity.PortIdentity.{PortIdentity}
use Rattle.ptpm_codec.specs.declared.message.Action.{Action}
use Rattle.ptpm_codec.specs.declared.message.Action.TheVariants as actions
use Rattle.ptpm_codec.specs.declared.message.Message.{Message}
use Rattle.ptpm_codec.specs.Message.{IsDataField, reply_action}
use Rattle.ptpm_codec.specs.Reading.{message_of}
use Rattle.ptpm_data.specs.Members.{DataSetsValue}
use Rattle.ptpm_data.specs.Replies.{reply_of}
use Rattle.ptpm_data.specs.Reply.{Done, Outcome, Refused, ReplyValue, Value}
use Rattle.ptpm_data.specs.Request.{RequestValue}
use Rattle.ptpm_table.specs.Rendering.{rendered}
use Rattle.ptpm_agent.specs.declared.verdict.Verdict.{Verdict}
use Rattle.ptpm_agent.specs.declared.verdict.Verdict.TheVariants as verdicts
use Rattle.ptpm_agent.specs.Addressing.{heard_of, request_of}
use Rattle.ptpm_agent.specs.Forwarding.{forwarded}
use Rattle.ptpm_agent.specs.Turn.{Clock, NumberedRequest, State, Turned, judged, numbered_from, turn}
use Rattle.ptpm_device.specs.declared.relayed.RelayedId.{RelayedId}
use Rattle.ptpm_device.specs.declared.relaying.DeviceSay.{DeviceSay}
use Rattle.ptpm_device.specs.declared.relaying.DeviceSay.TheVariants as saids
use Rattle.ptpm_device.specs.Asking.{is_lacked, is_permitted}
use Rattle.ptpm_device.specs.Relayed.{relayed, relayed_refusal}

-- what a device says of a datagram
pub data Say : Type 0 where
  -- it agrees, or has nothing to say
  Agrees : Say
  -- it can't do what it is asked
  Objects : (error : ErrorId) → Say
  -- the dataField of an id that the clock lacks, as it is by now
  Gives : (octets : List ℕ) → Say

-- ---- what is answered by it

-- the octets, if there are no more than that
abbrev pub given : ℕ → List ℕ → Outcome
given most octets = if nat_le (length octets) most then Value octets else Refused ResponseTooBig

-- one answer, of the clock
abbrev pub reply_given : ℕ → RequestValue → List ℕ → ReplyValue
reply_given most q octets = record {
  action = reply_action q.action;
  id = q.id;
  answers = record { port = None; outcome = given most octets } ∷ [];
}

-- To a new request of this manager that has no row of the table, if the say counts. An objection counts of a SET and a COMMAND that
-- the clock permits, and is answered by each that answers. What is given counts of a GET of an id that the clock lacks. Of that 130
-- octets are kept at most.
abbrev pub reply_own : Clock → DataSetsValue → PortIdentity → RequestValue → Say → Option ReplyValue
reply_own c d who q Agrees = None
reply_own c d who q (Objects error) = if is_permitted c who q then Some (reply_of q (Some error) d) else None
reply_own c d who q (Gives octets) = if is_lacked q then Some (reply_given 130 q octets) else None

-- a COMMAND that the device made is done, whatever it gives
abbrev pub given_to : Action → List ℕ → Outcome
given_to actions.Command octets = Done
given_to action octets = given 130 octets

-- To a SET or COMMAND of the table: why it is refused, or what the device says. If it agrees, a SET is answered with what it asks. If it
-- gives octets, a SET is answered with these.
abbrev pub relayed_outcome : Option ErrorId → RequestValue → Say → Outcome
relayed_outcome (Some error) q say = Refused error
relayed_outcome None q Agrees = given_to q.action q.octets
relayed_outcome None q (Objects error) = Refused error
relayed_outcome None q (Gives octets) = given_to q.action octets

-- one answer, of the clock
abbrev pub reply_relayed : Option ErrorId → RequestValue → Say → ReplyValue
reply_relayed refusal q say = record {
  action = reply_action q.action;
  id = q.id;
  answers = record { port = None; outcome = relayed_outcome refusal q say } ∷ [];
}

abbrev pub reply_at : Option RelayedId → Clock → DataSetsValue → PortIdentity → RequestValue → Say → Option ReplyValue
reply_at None c d who q say = reply_own c d who q say
reply_at (Some r) c d who q say = Some (reply_relayed (relayed_refusal r q (c.rights who)) q say)

-- to a new request of this manager, if it has a row of the table or the say counts
abbrev pub reply_said : List RelayedId → Clock → DataSetsValue → PortIdentity → RequestValue → Say → Option ReplyValue
reply_said rows c d who q say = reply_at (relayed rows q) c d who q say

-- To a request without a number, if the say counts. Nothing of it is kept.
abbrev pub reply_told : RequestValue → Say → Option ReplyValue
reply_told q Agrees = None
reply_told q (Objects error) = None
reply_told q (Gives octets) = if is_lacked q then Some (reply_given 1418 q octets) else None

-- how many octets of what is given are answered at most, by the verdict
abbrev pub most_given : Verdict → ℕ
most_given verdicts.AnsweredNew = 130
most_given _ = 1418

-- ---- a turn

-- The clock keeps the request with the reply that the device makes. Its data sets stay.
abbrev pub after_reply : State → NumberedRequest → ReplyValue → State
after_reply s r reply = record {
  sets = s.sets;
  entries = insert s.entries r.manager (record { number = r.number; request = r.request; reply = reply });
}

-- the same of a GET to which the device gives these octets, if there is one
abbrev pub given_by : State → Option NumberedRequest → List ℕ → State
given_by s None octets = s
given_by s (Some r) octets = after_reply s r (reply_given 130 r.request octets)

-- a new request whose reply the device makes, if it does
abbrev pub new_said : Clock → State → ℕ → List ℕ → Message → Option ReplyValue → Turned
new_said c s ingress datagram v None = turn c s ingress datagram
new_said c s ingress datagram v (Some reply) = record {
  verdict = verdicts.AnsweredNew;
  forwards = [];
  replies = rendered c.identity (heard_of v) reply ingress;
  next = after_reply s (numbered_from v) reply;
}

-- a request without a number, whose reply the device makes, if it does
abbrev pub unnumbered_said : Clock → State → ℕ → List ℕ → Message → Option ReplyValue → Turned
unnumbered_said c s ingress datagram v None = turn c s ingress datagram
unnumbered_said c s ingress datagram v (Some reply) = record {
  verdict = verdicts.AnsweredUnnumbered;
  forwards = forwarded c.identity ingress s.sets datagram;
  replies = rendered c.identity (heard_of v) reply ingress;
  next = s;
}

abbrev pub said_at : Verdict → List RelayedId → Clock → State → ℕ → List ℕ → Message → Say → Turned
said_at verdicts.AnsweredNew rows c s ingress datagram v say =
    new_said c s ingress datagram v (reply_said rows c s.sets v.source (request_of v) say)
said_at verdicts.AnsweredUnnumbered rows c s ingress datagram v say =
    unnumbered_said c s ingress datagram v (reply_told (request_of v) say)
said_at _ rows c s ingress datagram v say = turn c s ingress datagram

-- a say counts of a request that is answered anew; any other turn is the clock's own
abbrev pub said_by : List RelayedId → Clock → State → ℕ → List ℕ → Option Message → Say → Turned
said_by rows c s ingress datagram None say = turn c s ingress datagram
said_by rows c s ingress datagram (Some v) say = said_at (judged c s v) rows c s ingress datagram v say

-- what a clock with this table does with a datagram that comes in at a port, with what its device says
unfoldable pub turn_said : List RelayedId → Clock → State → Say → ℕ → List ℕ → Turned
turn_said rows c s say ingress datagram = said_by rows c s ingress datagram (message_of datagram) say

-- ---- as code

abbrev pub said_value : DeviceSay → Say
said_value saids.Agrees = Agrees
said_value (saids.Objects error) = Objects error
said_value (saids.Gives octets) = Gives octets.now

-- what it gives is a dataField
abbrev pub IsGiven : DeviceSay → Type 0
IsGiven saids.Agrees = Unit {0}
IsGiven (saids.Objects error) = Unit {0}
IsGiven (saids.Gives octets) = IsDataField octets.now
