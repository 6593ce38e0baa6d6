-- What a boundary clock passes on though this profile does not read it: a management message whose action or TLV is refused. Its
-- header is one of a management message (IEEE 1588-2019, 13.3 and 15.4). It is passed on under the conditions of any other
-- (15.3.3 and this project's profile), with one hop less.
use Rattle.std.specs.Prelude.{ℕ, ◌&&◌, Bool, true, false, if◌then◌else◌, List, [], map, Option, Some, None, Result, Ok, Err}
use Rattle.ptpm_codec.specs.declared.error.DecodeError.{DecodeError}
use Rattle.ptpm_codec.specs.declared.error.DecodeError.TheVariants as errors
use Rattle.ptpm_codec.specs.Layout as layout
use Rattle.ptpm_codec.specs.Layout.{message_octets}
use Rattle.ptpm_codec.specs.Reading.{message_at, reading}
use Rattle.ptpm_codec.specs.Refusal.{refusal}
use Rattle.ptpm_codec.specs.declared.message.Message.{Message}
use Rattle.ptpm_data.specs.Members.{DataSetsValue}
use Rattle.ptpm_agent.specs.Forwarding.{egress_ports, is_forwarded, with_less_hop}
use Rattle.ptpm_host.specs.declared.passed_on.MessageKey.{MessageKey}
use Rattle.ptpm_host.specs.PassedOn.{clock_number, key_of}

-- the header is one of a management message: what is refused is its action, its TLV or its displayData
abbrev pub is_past_header : DecodeError → Bool
is_past_header errors.TooShort = false
is_past_header errors.NotManagement = false
is_past_header errors.BadVersion = false
is_past_header errors.BadLength = false
is_past_header errors.BadAction = true
is_past_header errors.BadTlvType = true
is_past_header errors.BadTlvLength = true
is_past_header errors.BadText = true
is_past_header errors.OutOfMemory = false

abbrev pub is_unread_by : Option DecodeError → Bool
is_unread_by None = false
is_unread_by (Some e) = is_past_header e

abbrev pub is_unread : List ℕ → Bool
is_unread d = is_unread_by (refusal d)

-- Its header counts alone: the body of this value is none of the message's.
abbrev pub is_transited : ℕ → DataSetsValue → List ℕ → Bool
is_transited ingress s d = is_unread d && is_forwarded s.default.identity ingress s (message_at (message_octets d))

-- the copies that go out, each with its port
abbrev pub transited : ℕ → DataSetsValue → List ℕ → List (ℕ × List ℕ)
transited ingress s d =
    if is_transited ingress s d then map (λ port. (port, with_less_hop d)) (egress_ports ingress s) else []

-- ---- what distinguishes one of them from another: the fields of its header, and the two octets where an id would be

abbrev pub header_key : List ℕ → MessageKey
header_key m = record {
  source_clock = clock_number (layout.source_port_identity m).clock;
  target_clock = clock_number (layout.target_port_identity m).clock;
  source_port = (layout.source_port_identity m).port;
  number = layout.sequence_id m;
  target_port = (layout.target_port_identity m).port;
  id = layout.management_id m;
  action = layout.action_field m;
}

abbrev pub key_by : Result Message DecodeError → Bool → List ℕ → Option MessageKey
key_by (Ok v) unread m = Some (key_of v)
key_by (Err e) true m = Some (header_key m)
key_by (Err e) false m = None

-- the key of a datagram that is a management message, read or not
abbrev pub key_in : List ℕ → Option MessageKey
key_in d = key_by (reading d) (is_unread d) (message_octets d)
