-- What a session makes of a datagram that it hears: the answer to its request, or one that it ignores, and why.
use Rattle.std.specs.Prelude.{◌≡◌, ◌<◌, ℕ, ◌+◌, ◌==◌, ◌||◌, ◌&&◌, Bool, true, false, not, List, [], ◌∷◌, ◌++◌, Option, Some, None, Result, Ok, Err}
use Rattle.ptpm_codec.specs.declared.error.DecodeError.{DecodeError}
use Rattle.ptpm_codec.specs.declared.identity.PortIdentity.{PortIdentity}
use Rattle.ptpm_codec.specs.declared.message.Action.{Action}
use Rattle.ptpm_codec.specs.declared.message.Action.TheVariants as actions
use Rattle.ptpm_codec.specs.declared.message.Message.{Message}
use Rattle.ptpm_codec.specs.Identity.{every_port, same_clock, same_identity}
use Rattle.ptpm_codec.specs.Message.{action_of, id_of, is_reply}
use Rattle.ptpm_codec.specs.Reading.{reading}
use Rattle.ptpm_data.specs.ManagementId.{is_of_port}
use Rattle.ptpm_data.specs.Request.{RequestValue}
use Rattle.ptpm_manager.specs.declared.receiving.Reason.{Reason}
use Rattle.ptpm_manager.specs.declared.receiving.Reason.TheVariants as reasons
use Rattle.ptpm_manager.specs.declared.receiving.Received.{Received}
use Rattle.ptpm_manager.specs.declared.receiving.Received.TheVariants as received
use Rattle.ptpm_codec.specs.Ordered.{first_of}
use Rattle.ptpm_manager.specs.Report.{IsCopied, outcome_in}
use Rattle.ptpm_manager.specs.Session.{SessionValue, answered, is_waiting}
use Rattle.ptpm_codec.specs.SequenceNumber.{number_of}

-- ---- tests of a message

-- sdoId 0, and this domain
abbrev pub is_in_domain : ℕ → Message → Bool
is_in_domain domain v = v.sdo == 0 && v.domain == domain

abbrev pub is_response : Action → Bool
is_response actions.Get = false
is_response actions.Set = false
is_response actions.Response = true
is_response actions.Command = false
is_response actions.Acknowledge = false

abbrev pub is_acknowledge : Action → Bool
is_acknowledge actions.Get = false
is_acknowledge actions.Set = false
is_acknowledge actions.Response = false
is_acknowledge actions.Command = false
is_acknowledge actions.Acknowledge = true

-- GET and SET are answered by RESPONSE, COMMAND by ACKNOWLEDGE (15.4.1.6)
abbrev pub is_answered_by : Action → Action → Bool
is_answered_by actions.Get reply = is_response reply
is_answered_by actions.Set reply = is_response reply
is_answered_by actions.Response reply = false
is_answered_by actions.Command reply = is_acknowledge reply
is_answered_by actions.Acknowledge reply = false

-- The port that was asked for answers for itself. Any port of the clock answers while every port is meant, for an id of no port,
-- or while nothing was asked.
abbrev pub is_from_asked_port : Option RequestValue → ℕ → Bool
is_from_asked_port None port = true
is_from_asked_port (Some q) port = q.port == every_port || (q.port == port || not (is_of_port q.id))

abbrev pub is_from_target : SessionValue → PortIdentity → Bool
is_from_target s source = same_clock source.clock s.setup.target && is_from_asked_port s.unanswered source.port

-- the action that answers the request's, and its id
abbrev pub is_content : Option RequestValue → Action → ℕ → Bool
is_content None action id = false
is_content (Some q) action id = is_answered_by q.action action && q.id == id

-- ---- the reasons to ignore a message that was read, in their order

-- those of a message that is no reply to this port in this domain, whatever was asked
abbrev pub no_reply_to : PortIdentity → ℕ → Message → List (Bool × Reason)
no_reply_to me domain v =
    (not (is_in_domain domain v), reasons.OtherDomain)
    ∷ (not (is_reply (action_of v.body)), reasons.NotAReply)
    ∷ (not (same_identity v.target me), reasons.OtherTarget)
    ∷ []

unfoldable pub reason_of : SessionValue → Message → Option Reason
reason_of s v = first_of (no_reply_to s.setup.me s.domain v
    ++ (not (is_from_target s v.source), reasons.OtherSource)
    ∷ (not (is_waiting s), reasons.NothingAsked)
    ∷ (not (v.number == number_of s.setup.first s.issued), reasons.OtherNumber)
    ∷ (not (is_content s.unanswered (action_of v.body) (id_of v.body)), reasons.OtherContent)
    ∷ [])

-- ---- the answer to a datagram, and what it leaves

abbrev pub answer_by : Option Reason → SessionValue → Message → Received
answer_by (Some reason) s v = received.Ignored reason
answer_by None s v = received.Answered (record { index = s.issued; outcome = outcome_in v.body })

abbrev pub answer_to : SessionValue → Result Message DecodeError → Received
answer_to s (Err cause) = received.Ignored (reasons.Malformed cause)
answer_to s (Ok v) = answer_by (reason_of s v) s v

abbrev pub left_by : SessionValue → Received → SessionValue
left_by s (received.Answered report) = answered s
left_by s (received.Ignored reason) = s

-- what a session answers to a datagram
abbrev pub received_of : SessionValue → List ℕ → Received
received_of s datagram = answer_to s (reading datagram)

-- memory is asked for a dataField that answers, and for nothing else
abbrev pub NeedsMemory : Received → Type 0
NeedsMemory (received.Answered report) = IsCopied report.outcome
NeedsMemory (received.Ignored reason) = ⊥

-- What is answered is the request after those that are over. So in a session that gives nothing up reports have the indexes
-- 1, 2, 3, .. in their order.
abbrev pub IsCounted : Received → ℕ → ℕ → Type 0
IsCounted (received.Answered report) before after = (report.index ≡ before + 1) × (after ≡ before + 1)
IsCounted (received.Ignored reason) before after = after ≡ before

-- the index that is reported rises, whatever is given up
abbrev pub IsReportedNext : Received → ℕ → ℕ → Type 0
IsReportedNext (received.Answered report) before after = (before < report.index) × (after ≡ report.index)
IsReportedNext (received.Ignored reason) before after = after ≡ before
