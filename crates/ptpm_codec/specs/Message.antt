-- Message values: the fields of a management message, and which of them can be spelled (IEEE 1588-2019, 15.4).
use Rattle.std.specs.Prelude.{◌≡◌, ℕ, ◌%◌, ◌==◌, ◌&&◌, nat_le, ◌≤◌, ◌<◌, ◌^◌, Bool, true, false, List, [], length, codes, Option, Some, None}
use Rattle.ptpm_codec.specs.declared.identity.PortIdentity.{PortIdentity}
use Rattle.ptpm_codec.specs.declared.message.Action.{Action}
use Rattle.ptpm_codec.specs.declared.message.Action.TheVariants as actions
use Rattle.ptpm_codec.specs.declared.message.Message.{Message}
use Rattle.ptpm_codec.specs.declared.message.Body.{Body}
use Rattle.ptpm_codec.specs.declared.message.Body.TheVariants as bodies
use Rattle.ptpm_codec.specs.declared.error.ErrorId.{ErrorId}
use Rattle.ptpm_codec.specs.declared.error.ErrorId.TheVariants as errors

-- the actionField of an action (15.4.1.6)
abbrev pub action_code : Action → ℕ
action_code actions.Get = 0
action_code actions.Set = 1
action_code actions.Response = 2
action_code actions.Command = 3
action_code actions.Acknowledge = 4

-- the standard's name of an action (15.4.1.6)
abbrev pub action_name : Action → List ℕ
action_name actions.Get = codes "GET"
action_name actions.Set = codes "SET"
action_name actions.Response = codes "RESPONSE"
action_name actions.Command = codes "COMMAND"
action_name actions.Acknowledge = codes "ACKNOWLEDGE"

-- RESPONSE answers GET and SET, ACKNOWLEDGE answers COMMAND (15.4.1.6)
abbrev pub reply_action : Action → Action
reply_action actions.Get = actions.Response
reply_action actions.Set = actions.Response
reply_action actions.Command = actions.Acknowledge
reply_action action = action

abbrev pub is_reply : Action → Bool
is_reply actions.Get = false
is_reply actions.Set = false
is_reply actions.Response = true
is_reply actions.Command = false
is_reply actions.Acknowledge = true

abbrev pub IsRequestAction : Action → Type 0
IsRequestAction action = is_reply action ≡ false

abbrev pub IsReplyAction : Action → Type 0
IsReplyAction action = is_reply action ≡ true

-- the managementErrorId of a named error (15.5.4.3)
abbrev pub error_number : ErrorId → ℕ
error_number errors.ResponseTooBig = 0x0001
error_number errors.NoSuchId = 0x0002
error_number errors.WrongLength = 0x0003
error_number errors.WrongValue = 0x0004
error_number errors.NotSetable = 0x0005
error_number errors.NotSupported = 0x0006
error_number errors.GeneralError = 0xfffe

-- the standard's name of an error (15.5.4.3)
abbrev pub error_name : ErrorId → List ℕ
error_name errors.ResponseTooBig = codes "RESPONSE_TOO_BIG"
error_name errors.NoSuchId = codes "NO_SUCH_ID"
error_name errors.WrongLength = codes "WRONG_LENGTH"
error_name errors.WrongValue = codes "WRONG_VALUE"
error_name errors.NotSetable = codes "NOT_SETABLE"
error_name errors.NotSupported = codes "NOT_SUPPORTED"
error_name errors.GeneralError = codes "GENERAL_ERROR"

-- ---- the parts of a body

abbrev pub action_of : Body → Action
action_of (bodies.Request action id octets) = action
action_of (bodies.Answer action id octets) = action
action_of (bodies.Fault action error id text) = action

abbrev pub id_of : Body → ℕ
id_of (bodies.Request action id octets) = id
id_of (bodies.Answer action id octets) = id
id_of (bodies.Fault action error id text) = id

-- the dataField; an error status has none
abbrev pub octets_of : Body → List ℕ
octets_of (bodies.Request action id octets) = octets
octets_of (bodies.Answer action id octets) = octets
octets_of (bodies.Fault action error id text) = []

-- the managementErrorId of an error status
abbrev pub error_of : Body → Option ℕ
error_of (bodies.Request action id octets) = None
error_of (bodies.Answer action id octets) = None
error_of (bodies.Fault action error id text) = Some error

-- the text of an error status's displayData
abbrev pub text_of : Body → List ℕ
text_of (bodies.Request action id octets) = []
text_of (bodies.Answer action id octets) = []
text_of (bodies.Fault action error id text) = text

-- ---- which values have a spelling

-- a dataField has an even number of octets (14.1.1), and fits a message of 1,472
abbrev pub is_data_field : List ℕ → Bool
is_data_field octets = length octets % 2 == 0 && nat_le (length octets) 1418

-- the same as facts
pub record IsDataField (octets : List ℕ) : Type 0 where
  pub even : length octets % 2 ≡ 0
  pub small : length octets ≤ 1418

abbrev pub IsValidBody : Body → Type 0
IsValidBody (bodies.Request action id octets) = IsRequestAction action × IsDataField octets
IsValidBody (bodies.Answer action id octets) = IsReplyAction action × IsDataField octets
IsValidBody (bodies.Fault action error id text) = IsReplyAction action × (length text ≤ 255)

-- the fields are a message value: sdoId has 12 bits, and action and lengths suit the body
pub record IsValid (v : Message) : Type 0 where
  pub sdo : v.sdo ≤ 4095
  pub body : IsValidBody v.body

-- ---- ranges, which every value of the program's own types meets

pub record PortIdentityFits (p : PortIdentity) : Type 0 where
  pub clock : length p.clock.0 ≡ 8
  pub port : p.port < 2 ^ 16

abbrev pub BodyFits : Body → Type 0
BodyFits (bodies.Request action id octets) = id < 2 ^ 16
BodyFits (bodies.Answer action id octets) = id < 2 ^ 16
BodyFits (bodies.Fault action error id text) = (error < 2 ^ 16) × (id < 2 ^ 16)

pub record Fits (v : Message) : Type 0 where
  pub source : PortIdentityFits v.source
  pub number : v.number < 2 ^ 16
  pub target : PortIdentityFits v.target
  pub body : BodyFits v.body
