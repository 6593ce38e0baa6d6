-- The places of the fields of a management message, each stated once (IEEE 1588-2019, 13.3, 15.4 and 15.5).
use Rattle.std.specs.Prelude.{ℕ, ◌+◌, ◌*◌, ◌/◌, ◌%◌, List, take, drop, slice_index}
use Rattle.byteorder.specs.Endian.{big_number}
use Rattle.ptpm_codec.specs.declared.identity.ClockIdentity.{ClockIdentity}
use Rattle.ptpm_codec.specs.declared.identity.PortIdentity.{PortIdentity}

abbrev pub octet : ℕ → List ℕ → ℕ
octet place m = slice_index m place

-- a big-endian number of two octets (5.2)
unfoldable pub number_at : ℕ → List ℕ → ℕ
number_at place m = big_number 2 (drop place m)

-- the clockIdentity in the eight octets from a place
unfoldable pub clock_identity_at : ℕ → List ℕ → ClockIdentity
clock_identity_at place m = record { 0 = take 8 (drop place m) }

-- a PortIdentity (5.3.5): a clockIdentity of eight octets, then a portNumber of two
unfoldable pub port_identity_at : ℕ → List ℕ → PortIdentity
port_identity_at place m = record { clock = clock_identity_at place m; port = number_at (place + 8) m }

-- ---- the common header, octets 0 to 33 (13.3)

abbrev pub message_type : List ℕ → ℕ
message_type m = octet 0 m % 16

abbrev pub version_ptp : List ℕ → ℕ
version_ptp m = octet 1 m % 16

abbrev pub message_length : List ℕ → ℕ
message_length m = number_at 2 m

-- majorSdoId in the upper nibble of octet 0, minorSdoId in octet 5
abbrev pub sdo_id : List ℕ → ℕ
sdo_id m = octet 0 m / 16 * 256 + octet 5 m

abbrev pub domain_number : List ℕ → ℕ
domain_number m = octet 4 m

abbrev pub source_port_identity : List ℕ → PortIdentity
source_port_identity m = port_identity_at 20 m

abbrev pub sequence_id : List ℕ → ℕ
sequence_id m = number_at 30 m

-- ---- the fields of a management message, octets 34 to 47 (15.4.1)

abbrev pub target_port_identity : List ℕ → PortIdentity
target_port_identity m = port_identity_at 34 m

abbrev pub starting_boundary_hops : List ℕ → ℕ
starting_boundary_hops m = octet 44 m

abbrev pub boundary_hops : List ℕ → ℕ
boundary_hops m = octet 45 m

abbrev pub action_field : List ℕ → ℕ
action_field m = octet 46 m % 16

-- ---- its TLV, from octet 48 on (14.1)

abbrev pub tlv_type : List ℕ → ℕ
tlv_type m = number_at 48 m

abbrev pub length_field : List ℕ → ℕ
length_field m = number_at 50 m

-- in a MANAGEMENT TLV (15.5.2): managementId and dataField

abbrev pub management_id : List ℕ → ℕ
management_id m = number_at 52 m

abbrev pub data_field : List ℕ → List ℕ
data_field m = drop 54 m

-- in a MANAGEMENT_ERROR_STATUS TLV (15.5.4): managementErrorId, managementId, four reserved octets and displayData

abbrev pub management_error_id : List ℕ → ℕ
management_error_id m = number_at 52 m

abbrev pub refused_id : List ℕ → ℕ
refused_id m = number_at 54 m

abbrev pub display_data : List ℕ → List ℕ
display_data m = drop 60 m

-- ---- datagrams

-- a datagram's first messageLength octets; what follows them is ignored (this project's profile)
abbrev pub message_octets : List ℕ → List ℕ
message_octets datagram = take (message_length datagram) datagram

-- a number rounded up to even: TLVs and their padded texts have an even number of octets (14.1.1)
abbrev pub even_up : ℕ → ℕ
even_up n = n + n % 2
