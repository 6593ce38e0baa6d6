-- What a datagram says, as a function: the first refusal, or the message value. Laws join it to the spelling relation.
use Rattle.std.specs.Prelude.{◌≡◌, ℕ, ◌≤◌, true, List, length, Option, Some, None, Result, Ok, Err, if◌then◌else◌, ◌⊎◌}
use Rattle.ptpm_codec.specs.declared.error.DecodeError.{DecodeError}
use Rattle.ptpm_codec.specs.declared.error.DecodeError.TheVariants.{OutOfMemory}
use Rattle.ptpm_codec.specs.declared.message.Action.{Action}
use Rattle.ptpm_codec.specs.declared.message.Message.{Message}
use Rattle.ptpm_codec.specs.declared.message.Body.{Body}
use Rattle.ptpm_codec.specs.declared.message.Body.TheVariants as bodies
use Rattle.ptpm_codec.specs.declared.tlv.TlvKind.{TlvKind}
use Rattle.ptpm_codec.specs.declared.tlv.TlvKind.TheVariants.{Management, ErrorStatus}
use Rattle.ptpm_codec.specs.Layout as layout
use Rattle.ptpm_codec.specs.Layout.{message_octets}
use Rattle.ptpm_codec.specs.Message.{is_reply}
use Rattle.ptpm_codec.specs.PtpText.{ptp_text}
use Rattle.ptpm_codec.specs.Refusal.{action_from, tlv_kind, is_text, refusal}

abbrev pub action_at : List ℕ → Action
action_at m = action_from (layout.action_field m)

abbrev pub tlv_kind_at : List ℕ → TlvKind
tlv_kind_at m = tlv_kind (layout.tlv_type m)

abbrev pub body_from : TlvKind → Action → List ℕ → Body
body_from Management action m =
    if is_reply action then bodies.Answer action (layout.management_id m) (layout.data_field m)
    else bodies.Request action (layout.management_id m) (layout.data_field m)
body_from ErrorStatus action m =
    bodies.Fault action (layout.management_error_id m) (layout.refused_id m) (ptp_text (layout.display_data m))

unfoldable pub body_at : List ℕ → Body
body_at m = body_from (tlv_kind_at m) (action_at m) m

-- the value that the octets of a well-formed message carry
abbrev pub message_at : List ℕ → Message
message_at m = record {
  sdo = layout.sdo_id m;
  domain = layout.domain_number m;
  source = layout.source_port_identity m;
  number = layout.sequence_id m;
  target = layout.target_port_identity m;
  starting_hops = layout.starting_boundary_hops m;
  hops = layout.boundary_hops m;
  body = body_at m;
}

abbrev pub ok_unless : {X : Type 0} → Option DecodeError → X → Result X DecodeError
ok_unless None v = Ok v
ok_unless (Some e) v = Err e

abbrev pub reading : List ℕ → Result Message DecodeError
reading d = ok_unless (refusal d) (message_at (message_octets d))

abbrev pub some_unless : {X : Type 0} → Option DecodeError → X → Option X
some_unless None v = Some v
some_unless (Some e) v = None

-- the value that a datagram's first messageLength octets spell, if they spell one
unfoldable pub message_of : List ℕ → Option Message
message_of d = some_unless (refusal d) (message_at (message_octets d))

-- the datagram is not refused: its first messageLength octets are a well-formed message
abbrev pub IsWellFormed : List ℕ → Type 0
IsWellFormed d = refusal d ≡ None

-- this value, or no memory for it
abbrev pub IsOkUnlessMemory : {X : Type 0} → Result X DecodeError → X → Type 0
IsOkUnlessMemory r v = (r ≡ Ok v) ⊎ (r ≡ Err OutOfMemory)

-- what a view of the octets m knows of them
pub record IsViewed (m : List ℕ) (action : Action) (kind : TlvKind) : Type 0 where
  pub long : 54 ≤ length m
  pub action_is : action ≡ action_at m
  pub kind_is : kind ≡ tlv_kind_at m
  pub status_long : kind ≡ ErrorStatus → 60 ≤ length m
  pub text_fits : kind ≡ ErrorStatus → is_text (layout.display_data m) ≡ true
