-- The spelling relation: which octets carry which message value (IEEE 1588-2019, 13.3, 15.4, 15.5). Octets that no
-- line names are free: they carry nothing, and are ignored on reception.
use Rattle.std.specs.Prelude.{◌≡◌, ℕ, ◌+◌, ◌%◌, ◌≤◌, List, [], length, take, drop, ◌⊎◌}
use Rattle.ptpm_codec.specs.declared.message.Message.{Message}
use Rattle.ptpm_codec.specs.declared.message.Body.{Body}
use Rattle.ptpm_codec.specs.declared.message.Body.TheVariants as bodies
use Rattle.ptpm_codec.specs.Message.{action_code, action_of, IsRequestAction, IsReplyAction}
use Rattle.ptpm_codec.specs.Layout as layout
use Rattle.ptpm_codec.specs.Layout.{octet, even_up}

-- displayData is absent, or a PTPText (5.3.9): a length octet, the text, and a pad octet if their number is odd
abbrev pub SpellsText : List ℕ → List ℕ → Type 0
SpellsText text d =
    ((length d ≡ 0) × (text ≡ []))
    ⊎ ((length d ≡ even_up (1 + octet 0 d)) × (text ≡ take (octet 0 d) (drop 1 d)))

-- a MANAGEMENT TLV (15.5.2): its dataField goes to the end, and has an even number of octets
pub record SpellsManagement (id : ℕ) (octets m : List ℕ) : Type 0 where
  pub type : layout.tlv_type m ≡ 0x0001
  pub id_is : id ≡ layout.management_id m
  pub octets_are : octets ≡ layout.data_field m
  pub even : length m % 2 ≡ 0

-- a MANAGEMENT_ERROR_STATUS TLV (15.5.4)
pub record SpellsErrorStatus (error id : ℕ) (text m : List ℕ) : Type 0 where
  pub type : layout.tlv_type m ≡ 0x0002
  pub error_is : error ≡ layout.management_error_id m
  pub id_is : id ≡ layout.refused_id m
  pub whole : 60 ≤ length m
  pub text_is : SpellsText text (layout.display_data m)

abbrev pub SpellsBody : Body → List ℕ → Type 0
SpellsBody (bodies.Request action id octets) m = IsRequestAction action × SpellsManagement id octets m
SpellsBody (bodies.Answer action id octets) m = IsReplyAction action × SpellsManagement id octets m
SpellsBody (bodies.Fault action error id text) m = IsReplyAction action × SpellsErrorStatus error id text m

-- the octets m carry the message value v
pub record Spells (v : Message) (m : List ℕ) : Type 0 where
  pub at_least : 54 ≤ length m
  pub at_most : length m ≤ 1472
  -- a management message of PTP version 2, whose messageLength is the number of its octets
  pub message_type : layout.message_type m ≡ 0xd
  pub version_ptp : layout.version_ptp m ≡ 2
  pub message_length : layout.message_length m ≡ length m
  pub sdo : v.sdo ≡ layout.sdo_id m
  pub domain : v.domain ≡ layout.domain_number m
  pub source : v.source ≡ layout.source_port_identity m
  pub number : v.number ≡ layout.sequence_id m
  pub target : v.target ≡ layout.target_port_identity m
  pub starting_hops : v.starting_hops ≡ layout.starting_boundary_hops m
  pub hops : v.hops ≡ layout.boundary_hops m
  pub action : action_code (action_of v.body) ≡ layout.action_field m
  -- one TLV, which ends where the message ends
  pub length_field : layout.length_field m + 52 ≡ length m
  pub body : SpellsBody v.body m
