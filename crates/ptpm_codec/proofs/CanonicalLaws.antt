-- What the canonical spelling has at each place, how long it is, that it spells its message, and how it is written.
use Rattle.std.proofs.Common.{◌≡◌, ℕ, ◌+◌, ◌%◌, ◌^◌, ◌<◌, ◌≤◌, eqb, List, [], ◌∷◌, ◌++◌, length, drop, refl, sym, ap, subst, ◌∙◌, arith, append_assoc, ◌*◌, ◌/◌, take}
use Rattle.std.proofs.lemmas.List.{take_at, drop-drop, drop_all, length-drop}
use Rattle.std.proofs.lemmas.Bool.{cond-false, ne_eqb}
use Rattle.std.specs.Prelude.{replicate}
use Rattle.ptpm_codec.specs.declared.message.Message.{Message}
use Rattle.ptpm_codec.specs.declared.message.Body.{Body}
use Rattle.ptpm_codec.specs.Layout.{number_at, clock_identity_at, port_identity_at, message_octets}
use Rattle.ptpm_codec.specs.Message.{action_code, action_of, IsValid, IsValidBody, Fits, BodyFits, PortIdentityFits}
use Rattle.ptpm_codec.specs.Spelling.{Spells, SpellsBody, SpellsText}
use Rattle.ptpm_codec.specs.PtpText.{ptp_text_octets}
use Rattle.ptpm_codec.specs.Canonical.{canonical, header_octets, port_identity_octets, tlv_octets, text_octets, error_status_octets, management_octets}
use Rattle.ptpm_codec.proofs.OctetLaws.{ptp_text_size}
use Rattle.byteorder.specs.Endian.{big_bytes}
use Rattle.ptpm_codec.specs.Envelope.{written, envelope_of, sent_with}
use Rattle.ptpm_codec.specs.declared.message.Action.{Action}
use Rattle.ptpm_codec.specs.declared.message.Body.TheVariants as bodies
use Rattle.ptpm_codec.specs.Layout as layout

-- ---- what the canonical spelling has at each place, how long it is, and that it spells its message

-- ---- clock identities, octet by octet

-- what holds of any eight octets holds of a list of that length
pub by_eight : (P : List ℕ → Type 0)
    → ((a b c d e f g h : ℕ) → P (a ∷ b ∷ c ∷ d ∷ e ∷ f ∷ g ∷ h ∷ []))
    → (xs : List ℕ)
    → length xs ≡ 8
    → P xs
by_eight P each [] n = absurd (omega arith)
by_eight P each (a ∷ []) n = absurd (omega arith)
by_eight P each (a ∷ b ∷ []) n = absurd (omega arith)
by_eight P each (a ∷ b ∷ c ∷ []) n = absurd (omega arith)
by_eight P each (a ∷ b ∷ c ∷ d ∷ []) n = absurd (omega arith)
by_eight P each (a ∷ b ∷ c ∷ d ∷ e ∷ []) n = absurd (omega arith)
by_eight P each (a ∷ b ∷ c ∷ d ∷ e ∷ f ∷ []) n = absurd (omega arith)
by_eight P each (a ∷ b ∷ c ∷ d ∷ e ∷ f ∷ g ∷ []) n = absurd (omega arith)
by_eight P each (a ∷ b ∷ c ∷ d ∷ e ∷ f ∷ g ∷ h ∷ []) n = each a b c d e f g h
by_eight P each (a ∷ b ∷ c ∷ d ∷ e ∷ f ∷ g ∷ h ∷ i ∷ rest) n = absurd (omega arith)

-- the message with other clock identities in its source and target
abbrev pub with_clocks : Message → List ℕ → List ℕ → Message
with_clocks v source target = record v {
  source = record { clock = record { 0 = source }; port = v.source.port };
  target = record { clock = record { 0 = target }; port = v.target.port };
}

-- a claim on messages of eight octets in each clock identity is shown with these octets named
pub by_identities : (P : Message → Type 0) (v : Message) → PortIdentityFits v.source
    → PortIdentityFits v.target
    → ((a b c d e f g h a' b' c' d' e' f' g' h' : ℕ)
    → P
    (with_clocks v (a ∷ b ∷ c ∷ d ∷ e ∷ f ∷ g ∷ h ∷ [])
    (a' ∷ b' ∷ c' ∷ d' ∷ e' ∷ f' ∷ g' ∷ h' ∷ [])))
    → P v
by_identities P v source target each =
    by_eight (λ s. P (with_clocks v s v.target.clock.0))
    (λ a b c d e f g h. by_eight (λ t. P (with_clocks v (a ∷ b ∷ c ∷ d ∷ e ∷ f ∷ g ∷ h ∷ []) t)) (each a b c d e f g h) v.target.clock.0 target.clock)
    v.source.clock.0 source.clock

pub by_clocks : (P : Message → Type 0) (v : Message) → Fits v
    → ((a b c d e f g h a' b' c' d' e' f' g' h' : ℕ)
    → P
    (with_clocks v (a ∷ b ∷ c ∷ d ∷ e ∷ f ∷ g ∷ h ∷ [])
    (a' ∷ b' ∷ c' ∷ d' ∷ e' ∷ f' ∷ g' ∷ h' ∷ [])))
    → P v
by_clocks P v fits each = by_identities P v fits.source fits.target each

-- ---- the header

-- the octets b begin with the header of v, and these octets follow it
record HasHeader (v : Message) (size : ℕ) (following b : List ℕ) : Type 0 where
  message_type : layout.message_type b ≡ 0xd
  version_ptp : layout.version_ptp b ≡ 2
  message_length : layout.message_length b ≡ size
  sdo : v.sdo ≡ layout.sdo_id b
  domain : v.domain ≡ layout.domain_number b
  source : v.source ≡ layout.source_port_identity b
  number : v.number ≡ layout.sequence_id b
  target : v.target ≡ layout.target_port_identity b
  starting_hops : v.starting_hops ≡ layout.starting_boundary_hops b
  hops : v.hops ≡ layout.boundary_hops b
  action : action_code (action_of v.body) ≡ layout.action_field b
  behind : drop 48 b ≡ following
  whole : length b ≡ 48 + length following

header_of_octets : (v : Message) (size : ℕ) (following : List ℕ)
    → v.sdo ≤ 4095
    → Fits v
    → size < 2 ^ 16
    → (a b c d e f g h a' b' c' d' e' f' g' h' : ℕ)
    → let w = with_clocks v (a ∷ b ∷ c ∷ d ∷ e ∷ f ∷ g ∷ h ∷ [])
    (a' ∷ b' ∷ c' ∷ d' ∷ e' ∷ f' ∷ g' ∷ h' ∷ []) in
    HasHeader w size following (header_octets w size ++ following)
unfolding number_at port_identity_at clock_identity_at port_identity_octets
header_of_octets v size following small fits low a b c d e f g h a' b' c' d' e' f' g' h' = grind arith

has_header : (v : Message) (size : ℕ) (following : List ℕ)
    → v.sdo ≤ 4095
    → Fits v
    → size < 2 ^ 16
    → HasHeader v size following (header_octets v size ++ following)
has_header v size following small fits low =
    by_clocks (λ w. HasHeader w size following (header_octets w size ++ following)) v fits (header_of_octets v size following small fits low)

-- ---- what follows the header

-- the places from octet 48 on are those of the list t
pub record ContinuesWith (t b : List ℕ) : Type 0 where
  pub tlv_type : layout.tlv_type b ≡ number_at 0 t
  pub length_field : layout.length_field b ≡ number_at 2 t
  pub first_id : layout.management_id b ≡ number_at 4 t
  pub second_id : layout.refused_id b ≡ number_at 6 t
  pub data_field : layout.data_field b ≡ drop 6 t
  pub display_data : layout.display_data b ≡ drop 12 t
  pub whole : length b ≡ 48 + length t

pub continues_with : (t b : List ℕ) → drop 48 b ≡ t → length b ≡ 48 + length t → ContinuesWith t b
unfolding number_at
continues_with t b behind whole = record {
  tlv_type = rw behind refl;
  length_field = rw (drop-drop 2 48 b) at (ap (number_at 2) behind);
  first_id = rw (drop-drop 4 48 b) at (ap (number_at 4) behind);
  second_id = rw (drop-drop 6 48 b) at (ap (number_at 6) behind);
  data_field = rw (drop-drop 6 48 b) at (ap (drop 6) behind);
  display_data = rw (drop-drop 12 48 b) at (ap (drop 12) behind);
  whole = whole;
}

-- ---- displayData

text_octets-some : (text : List ℕ) → 0 < length text → text_octets text ≡ ptp_text_octets text
unfolding text_octets
text_octets-some text some = cond-false (eqb (length text) 0) [] (ptp_text_octets text) (ne_eqb (length text) 0 (λ none. omega arith))

record IsPaddedText (text d : List ℕ) : Type 0 where
  spelled : SpellsText text d
  even : length d % 2 ≡ 0
  most : length d ≤ 2 + length text

padded : (text : List ℕ) → IsPaddedText text (text_octets text)
unfolding ptp_text_octets text_octets
padded [] = grind arith
padded (x ∷ xs) =
    let text : List ℕ = x ∷ xs in
    let pad : List ℕ = replicate ((1 + length text) % 2) 0 in
    let size = ptp_text_size text in grind (arith, text_octets-some, take_at)

-- ---- the TLV

record HasTlv (body : Body) (t : List ℕ) : Type 0 where
  length_field : number_at 2 t + 4 ≡ length t
  at_least : 6 ≤ length t
  at_most : length t ≤ 1424
  spelled : (b : List ℕ) → ContinuesWith t b → SpellsBody body b

has_tlv : (body : Body) → IsValidBody body → BodyFits body → HasTlv body (tlv_octets body)
unfolding tlv_octets number_at
has_tlv (bodies.Request action id octets) (asks, field) fits =
    let even = field.even in
    let small = field.small in grind arith
has_tlv (bodies.Answer action id octets) (answers, field) fits =
    let even = field.even in
    let small = field.small in grind arith
has_tlv (bodies.Fault action error id text) (answers, small) (error_fits, id_fits) = grind (arith, padded)

-- ---- the whole

-- the canonical spelling of a valid message is from 54 to 1,472 octets long
pub record IsCanonicalSize (c : List ℕ) : Type 0 where
  pub at_least : 54 ≤ length c
  pub at_most : length c ≤ 1472

pub canonical_spells : (v : Message) → IsValid v → Fits v → Spells v (canonical v)
canonical_spells v valid fits =
    let tlv = tlv_octets v.body in
    let t = has_tlv v.body valid.body fits.body in
    let least = t.at_least in
    let most = t.at_most in
    let h = has_header v (48 + length tlv) tlv valid.sdo fits (omega arith) in
    let at = continues_with tlv (canonical v) h.behind h.whole in
    let whole = h.whole in grind arith

pub canonical_size : (v : Message) → IsValid v → Fits v → IsCanonicalSize (canonical v)
canonical_size v valid fits = let s = canonical_spells v valid fits in record { at_least = s.at_least; at_most = s.at_most }

-- a datagram that begins with a canonical spelling has it for its message
pub canonical_octets : (v : Message) (rest : List ℕ)
    → IsValid v
    → Fits v
    → message_octets (canonical v ++ rest) ≡ canonical v
canonical_octets v rest valid fits =
    let tlv = tlv_octets v.body in
    let size = 48 + length tlv in
    let t = has_tlv v.body valid.body fits.body in
    let most = t.at_most in
    let alone = has_header v size tlv valid.sdo fits (omega arith) in
    let followed = has_header v size (tlv ++ rest) valid.sdo fits (omega arith) in
    let number : layout.message_length (canonical v ++ rest) ≡ size =
    ap layout.message_length (append_assoc (header_octets v size) tlv rest) ∙ followed.message_length in grind (arith, take_at)

pub canonical_round_trip : (v : Message) (rest : List ℕ)
    → IsValid v
    → Fits v
    → Spells v (message_octets (canonical v ++ rest))
canonical_round_trip v rest valid fits = subst (λ m. Spells v m) (sym (canonical_octets v rest valid fits)) (canonical_spells v valid fits)

-- ---- how a message is written: its header field by field, and the messages of one reply over their envelope

-- ---- a header is the canonical one if each field is written at its place

-- the fields of a message of this size, one after the other over zeros
abbrev pub by_place : Message → ℕ → List ℕ
by_place v size =
    written 44 (v.starting_hops ∷ v.hops ∷ action_code (action_of v.body) ∷ 0 ∷ [])
    (written 42 (big_bytes 2 v.target.port) (written 34 v.target.clock.0 (written 32 (0x04 ∷ 0x7f ∷ [])
    (written 30 (big_bytes 2 v.number) (written 28 (big_bytes 2 v.source.port) (written 20 v.source.clock.0
    (written 4 (v.domain ∷ v.sdo % 256 ∷ []) (written 2 (big_bytes 2 size)
    (written 0 ((v.sdo / 256 * 16 + 0xd) ∷ 0x12 ∷ []) (replicate 48 0))))))))))

pub header_written : (v : Message) (size : ℕ) → PortIdentityFits v.source → PortIdentityFits v.target
    → by_place v size ≡ header_octets v size
unfolding port_identity_octets
header_written v size source target =
    by_identities (λ w. by_place w size ≡ header_octets w size) v source target
    (λ a1 b1 c1 d1 e1 f1 g1 h1 a2 b2 c2 d2 e2 f2 g2 h2. refl)

-- three numbers, one after the other over six octets
pub numbers_written : (a b c : ℕ) (old : List ℕ) → length old ≡ 6
    → written 4 (big_bytes 2 c) (written 2 (big_bytes 2 b) (written 0 (big_bytes 2 a) old))
    ≡ big_bytes 2 a ++ big_bytes 2 b ++ big_bytes 2 c
numbers_written a b c old size =
    let two : length (drop 2 old) ≡ 4 = rw (length-drop 2 old, size) refl in
    let four : length (drop 2 (drop 2 old)) ≡ 2 = rw (length-drop 2 (drop 2 old), two) refl in
    let none : drop 2 (drop 2 (drop 2 old)) ≡ [] = drop_all 2 (drop 2 (drop 2 old)) (omega (arith, four)) in grind arith

-- ---- the messages of one reply are their envelope with what differs written over

-- a header and the head of a TLV without dataField
pub envelope_in_two : (v : Message) (action : Action) (id : ℕ)
    → header_octets (record v { body = bodies.Answer action id [] }) 54 ++ (big_bytes 2 0x0001 ++ big_bytes 2 2 ++ big_bytes 2 id)
    ≡ envelope_of v action id
unfolding tlv_octets
envelope_in_two v action id = refl

-- an answer's size, port and lengthField written over the envelope
abbrev pub answered_by : ℕ → ℕ → ℕ → List ℕ → List ℕ
answered_by size port field m = written 50 (big_bytes 2 field) (written 28 (big_bytes 2 port) (written 2 (big_bytes 2 size) m))

answer_by : (v : Message) (action : Action) (id port size field : ℕ) (octets : List ℕ) → Fits v
    → size ≡ 48 + length (management_octets id octets)
    → answered_by size port (2 + length octets) (envelope_of v action id ++ octets)
    ≡ canonical (sent_with v port (bodies.Answer action id octets))
unfolding port_identity_octets tlv_octets
answer_by v action id port size field octets fits is =
    by_clocks (λ w. answered_by size port (2 + length octets) (envelope_of w action id ++ octets)
    ≡ canonical (sent_with w port (bodies.Answer action id octets))) v fits
    (λ a1 b1 c1 d1 e1 f1 g1 h1 a2 b2 c2 d2 e2 f2 g2 h2. rw is refl)

management_size : (id : ℕ) (octets : List ℕ) → 54 + length octets ≡ 48 + length (management_octets id octets)
management_size id octets = omega arith

pub answer_written : (v : Message) (action : Action) (id port : ℕ) (octets : List ℕ) → Fits v
    → answered_by (54 + length octets) port (2 + length octets) (envelope_of v action id ++ octets)
    ≡ canonical (sent_with v port (bodies.Answer action id octets))
answer_written v action id port octets fits = answer_by v action id port (54 + length octets) (2 + length octets) octets fits (management_size id octets)

pub fault_written : (v : Message) (action : Action) (answered id error port : ℕ) → Fits v
    → written 28 (big_bytes 2 port) (written 2 (big_bytes 2 60) (take 48 (envelope_of v action answered) ++ error_status_octets error id []))
    ≡ canonical (sent_with v port (bodies.Fault action error id []))
unfolding port_identity_octets tlv_octets text_octets
fault_written v action answered id error port fits =
    by_clocks (λ w. written 28 (big_bytes 2 port) (written 2 (big_bytes 2 60) (take 48 (envelope_of w action answered) ++ error_status_octets error id []))
    ≡ canonical (sent_with w port (bodies.Fault action error id []))) v fits
    (λ a1 b1 c1 d1 e1 f1 g1 h1 a2 b2 c2 d2 e2 f2 g2 h2. refl)

-- the head of an error status without text is all of it
pub error_head : (error id : ℕ)
    → big_bytes 2 0x0002 ++ big_bytes 2 8 ++ big_bytes 2 error ++ big_bytes 2 id ++ replicate 4 0 ≡ error_status_octets error id []
unfolding text_octets
error_head error id = refl
