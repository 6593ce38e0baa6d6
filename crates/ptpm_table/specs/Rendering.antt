-- The reply messages to a request, for the copy of it that is answered (IEEE 1588-2019, 15.4.1 and 15.5).
use Rattle.std.specs.Prelude.{◌≡◌, ◌≤◌, ℕ, ◌-◌, ◌%◌, List, [], All, map, length, unwrap_or}
use Rattle.ptpm_codec.specs.declared.identity.ClockIdentity.{ClockIdentity}
use Rattle.ptpm_codec.specs.declared.message.Action.{Action}
use Rattle.ptpm_codec.specs.declared.message.Body.{Body}
use Rattle.ptpm_codec.specs.declared.message.Body.TheVariants as bodies
use Rattle.ptpm_codec.specs.declared.message.Message.{Message}
use Rattle.ptpm_codec.specs.Canonical.{canonical}
use Rattle.ptpm_codec.specs.Message.{IsReplyAction, error_number}
use Rattle.ptpm_data.specs.declared.ports.TheConstants.{PORTS}
use Rattle.ptpm_data.specs.Reply as reply
use Rattle.ptpm_data.specs.Reply.{Answer, Outcome, ReplyValue}
use Rattle.ptpm_table.specs.declared.heard.Heard.{Heard}

-- both hop fields of a reply: how many hops the request has lost on its way, and 0 if boundaryHops is the greater
abbrev pub hops_passed : Heard → ℕ
hops_passed heard = heard.starting_hops - heard.hops

-- a dataField, an empty one for the success of a COMMAND, or an error status without text
abbrev pub answer_body : Action → ℕ → Outcome → Body
answer_body action id (reply.Value octets) = bodies.Answer action id octets
answer_body action id reply.Done = bodies.Answer action id []
answer_body action id (reply.Refused error) = bodies.Fault action (error_number error) id []

-- from the port that the answer is of, or the ingress port if it is of the clock, to the source of the copy
abbrev pub reply_message : ClockIdentity → Heard → Action → ℕ → ℕ → Answer → Message
reply_message me heard action id ingress a = record {
  sdo = 0;
  domain = heard.domain;
  source = record { clock = me; port = unwrap_or a.port ingress };
  number = heard.number;
  target = heard.source;
  starting_hops = hops_passed heard;
  hops = hops_passed heard;
  body = answer_body action id a.outcome;
}

-- a dataField has an even number of octets
abbrev pub IsEvenOutcome : Outcome → Type 0
IsEvenOutcome (reply.Value octets) = length octets % 2 ≡ 0
IsEvenOutcome reply.Done = Unit {0}
IsEvenOutcome (reply.Refused error) = Unit {0}

-- a reply of RESPONSE or ACKNOWLEDGE, of at most PORTS answers, with dataFields of even size
pub record IsSendable (r : ReplyValue) : Type 0 where
  pub action : IsReplyAction r.action
  pub even : All (λ a. IsEvenOutcome a.outcome) r.answers
  pub few : length r.answers ≤ PORTS

-- one message for each answer, in their order, each sent at the ingress port
unfoldable pub rendered : ClockIdentity → Heard → ReplyValue → ℕ → List (ℕ × List ℕ)
rendered me heard r ingress = map (λ a. (ingress, canonical (reply_message me heard r.action r.id ingress a))) r.answers
