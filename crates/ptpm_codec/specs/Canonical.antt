-- The canonical spelling: the one that is sent. Free octets have the values of this project's profile.
use Rattle.std.specs.Prelude.{ℕ, ◌+◌, ◌*◌, ◌%◌, ◌/◌, List, [], ◌∷◌, ◌++◌, length, replicate, ◌==◌, if◌then◌else◌}
use Rattle.byteorder.specs.Endian.{big_bytes}
use Rattle.ptpm_codec.specs.declared.identity.PortIdentity.{PortIdentity}
use Rattle.ptpm_codec.specs.declared.message.Message.{Message}
use Rattle.ptpm_codec.specs.declared.message.Body.{Body}
use Rattle.ptpm_codec.specs.declared.message.Body.TheVariants as bodies
use Rattle.ptpm_codec.specs.Message.{action_code, action_of}
use Rattle.ptpm_codec.specs.PtpText.{ptp_text_octets}

-- displayData: an empty text is left out, another is a PTPText
unfoldable pub text_octets : List ℕ → List ℕ
text_octets text = if length text == 0 then [] else ptp_text_octets text

abbrev pub management_octets : ℕ → List ℕ → List ℕ
management_octets id octets = big_bytes 2 0x0001 ++ big_bytes 2 (2 + length octets) ++ big_bytes 2 id ++ octets

abbrev pub error_status_octets : ℕ → ℕ → List ℕ → List ℕ
error_status_octets error id text =
    big_bytes 2 0x0002 ++ big_bytes 2 (8 + length (text_octets text)) ++ big_bytes 2 error ++ big_bytes 2 id ++ replicate 4 0
    ++ text_octets text

-- the TLV, octets 48 on
unfoldable pub tlv_octets : Body → List ℕ
tlv_octets (bodies.Request action id octets) = management_octets id octets
tlv_octets (bodies.Answer action id octets) = management_octets id octets
tlv_octets (bodies.Fault action error id text) = error_status_octets error id text

unfoldable pub port_identity_octets : PortIdentity → List ℕ
port_identity_octets p = p.clock.0 ++ big_bytes 2 p.port

-- octets 0 to 47 of a message of this size: minorVersionPTP 1, versionPTP 2; flagField, correctionField and
-- messageTypeSpecific 0; controlField 0x04, logMessageInterval 0x7F
abbrev pub header_octets : Message → ℕ → List ℕ
header_octets v size =
    (v.sdo / 256 * 16 + 0xd) ∷ 0x12 ∷ [] ++ big_bytes 2 size ++ v.domain ∷ (v.sdo % 256) ∷ [] ++ replicate 14 0
    ++ port_identity_octets v.source ++ big_bytes 2 v.number ++ 0x04 ∷ 0x7f ∷ [] ++ port_identity_octets v.target
    ++ v.starting_hops ∷ v.hops ∷ action_code (action_of v.body) ∷ 0 ∷ []

abbrev pub canonical : Message → List ℕ
canonical v = header_octets v (48 + length (tlv_octets v.body)) ++ tlv_octets v.body
