-- Which datagram answers a session's request, by the fields of its message (IEEE 1588-2019, 13.3 and 15.4.1).
use Rattle.std.specs.Prelude.{◌≡◌, ◌≢◌, ℕ, true, List, Some, Ok}
use Rattle.ptpm_codec.specs.declared.message.Message.{Message}
use Rattle.ptpm_codec.specs.Identity.{every_port}
use Rattle.ptpm_codec.specs.Message.{action_of, id_of}
use Rattle.ptpm_codec.specs.Reading.{reading}
use Rattle.ptpm_codec.specs.SequenceNumber.{number_of}
use Rattle.ptpm_data.specs.ManagementId.{is_of_port}
use Rattle.ptpm_data.specs.Request.{RequestValue}
use Rattle.ptpm_manager.specs.Receiving.{is_answered_by}
use Rattle.ptpm_manager.specs.Session.{SessionValue}

-- The message answers this request, which is the last that the session began.
pub record IsReplyTo (s : SessionValue) (q : RequestValue) (v : Message) : Type 0 where
  -- sdoId and domainNumber
  pub sdo : v.sdo ≡ 0
  pub domain : v.domain ≡ s.domain
  -- sourcePortIdentity: the clock that was asked, and for an id of a port the port that was asked, if that is one
  pub clock : v.source.clock ≡ s.setup.target
  pub port : is_of_port q.id ≡ true → q.port ≢ every_port → v.source.port ≡ q.port
  -- targetPortIdentity: exactly that of the session
  pub target : v.target ≡ s.setup.me
  -- sequenceId, managementId, and the actionField that answers the request's
  pub number : v.number ≡ number_of s.setup.first s.issued
  pub id : id_of v.body ≡ q.id
  pub action : is_answered_by q.action (action_of v.body) ≡ true

-- The datagram is such a message, and the session has a request that is not answered.
pub record HoldsReply (s : SessionValue) (datagram : List ℕ) : Type 0 where
  pub request : RequestValue
  pub unanswered : s.unanswered ≡ Some request
  pub message : Message
  pub read : reading datagram ≡ Ok message
  pub answers : IsReplyTo s request message
