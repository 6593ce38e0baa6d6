-- The refusals of a datagram, in their order: the answer is the first whose test holds.
use Rattle.std.specs.Prelude.{ℕ, ◌+◌, ◌%◌, Bool, not, nat_lt, ◌==◌, ◌||◌, ◌&&◌, if◌then◌else◌, List, [], ◌∷◌, length, Option, None}
use Rattle.std.specs.Option.{option_or}
use Rattle.ptpm_codec.specs.declared.error.DecodeError.{DecodeError}
use Rattle.ptpm_codec.specs.declared.error.DecodeError.TheVariants.{TooShort, NotManagement, BadVersion, BadLength, BadAction, BadTlvType, BadTlvLength, BadText}
use Rattle.ptpm_codec.specs.declared.message.Action.{Action}
use Rattle.ptpm_codec.specs.declared.message.Action.TheVariants as actions
use Rattle.ptpm_codec.specs.declared.tlv.TlvKind.{TlvKind}
use Rattle.ptpm_codec.specs.declared.tlv.TlvKind.TheVariants.{Management, ErrorStatus}
use Rattle.ptpm_codec.specs.Layout as layout
use Rattle.ptpm_codec.specs.Layout.{message_octets}
use Rattle.ptpm_codec.specs.Message.{is_reply}
use Rattle.ptpm_codec.specs.Ordered.{first_of}
use Rattle.ptpm_codec.specs.PtpText.{is_ptp_text}

-- the action of an actionField from 0 to 4
abbrev pub action_from : ℕ → Action
action_from n =
    if n == 0 then actions.Get else if n == 1 then actions.Set else if n == 2 then actions.Response
    else if n == 3 then actions.Command else actions.Acknowledge

-- the kind of a TLV of tlvType 1 or 2
abbrev pub tlv_kind : ℕ → TlvKind
tlv_kind n = if n == 2 then ErrorStatus else Management

-- the least lengthField of a TLV
abbrev pub least_length : ℕ → ℕ
least_length n = if n == 2 then 8 else 2

-- 1 to 4, of the datagram
unfoldable pub frame_refusal : List ℕ → Option DecodeError
frame_refusal d = first_of (
    (nat_lt (length d) 54, TooShort)
    ∷ (not (layout.message_type d == 13), NotManagement)
    ∷ (not (layout.version_ptp d == 2), BadVersion)
    ∷ (nat_lt (layout.message_length d) 54 || nat_lt (length d) (layout.message_length d) || nat_lt 1472 (layout.message_length d), BadLength)
    ∷ [])

-- 5 to 7, of actionField, tlvType, lengthField and messageLength
unfoldable pub tlv_refusal : ℕ → ℕ → ℕ → ℕ → Option DecodeError
tlv_refusal action type length_field size = first_of (
    (nat_lt 4 action, BadAction)
    ∷ (not (type == 1) && not ((type == 2) && is_reply (action_from action)), BadTlvType)
    ∷ (not (length_field % 2 == 0) || nat_lt length_field (least_length type) || not (length_field + 52 == size), BadTlvLength)
    ∷ [])

-- displayData is absent, or a PTPText
abbrev pub is_text : List ℕ → Bool
is_text d = (length d == 0) || is_ptp_text d

-- 8, of an error status's displayData
unfoldable pub text_refusal : TlvKind → List ℕ → Option DecodeError
text_refusal Management d = None
text_refusal ErrorStatus d = first_of ((not (is_text d), BadText) ∷ [])

-- 5 to 8, of the octets up to messageLength
abbrev pub message_refusal : List ℕ → Option DecodeError
message_refusal m =
    option_or (tlv_refusal (layout.action_field m) (layout.tlv_type m) (layout.length_field m) (length m))
    (text_refusal (tlv_kind (layout.tlv_type m)) (layout.display_data m))

-- the first refusal of a datagram; memory is none of the datagram's
abbrev pub refusal : List ℕ → Option DecodeError
refusal d = option_or (frame_refusal d) (message_refusal (message_octets d))
