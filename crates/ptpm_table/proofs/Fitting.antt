-- A reply that fits its request can be sent.
use Rattle.std.proofs.Common.{◌≤◌, ℕ, Bool, true, false, ap, ◌∙◌, arith, All}
use Rattle.ptpm_codec.specs.Message.{IsReplyAction, is_reply}
use Rattle.ptpm_codec.proofs.MessageLaws.{reply_action-is_reply}
use Rattle.ptpm_data.specs.declared.ports.TheConstants.{PORTS}
use Rattle.ptpm_data.specs.Reply.{ReplyValue}
use Rattle.ptpm_data.specs.Request.{RequestValue}
use Rattle.ptpm_table.specs.Entries.{FitsCount, FitsRequest}
use Rattle.ptpm_table.specs.Rendering.{IsEvenOutcome, IsSendable}

pub fitting_action : (q : RequestValue) (r : ReplyValue) → FitsRequest q r → IsReplyAction r.action
fitting_action q r fits = ap is_reply fits.action ∙ reply_action-is_reply q.action

pub fitting_even : (q : RequestValue) (r : ReplyValue)
    → FitsRequest q r
    → All (λ a. IsEvenOutcome a.outcome) r.answers
fitting_even q r fits = grind arith

few : (of_port : Bool) (count : ℕ) → FitsCount of_port count → count ≤ PORTS
few false count fits = omega (arith, fits)
few true count fits = fits.1

pub fitting_sendable : (q : RequestValue) (r : ReplyValue) → FitsRequest q r → IsSendable r
fitting_sendable q r fits = grind (arith, fitting_action, fitting_even, few)
