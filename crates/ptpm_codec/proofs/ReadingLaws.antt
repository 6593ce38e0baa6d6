-- A datagram that is not refused spells the message that is read from it, and no other; one that spells any is not refused.
use Rattle.std.proofs.Common.{◌≡◌, ℕ, ◌+◌, ◌-◌, ◌%◌, ◌≤◌, ◌<◌, Bool, true, cond, List, [], ◌∷◌, length, take, drop, get_or, Option, Some, None, Ok, refl, sym, ap, subst, ◌∙◌, inl, inr, arith, false}
use Rattle.std.proofs.Math.Dec.{eqb-suc-zero}
use Rattle.std.proofs.lemmas.Bool.{cases_lt, eq-eqb, eqb-true}
use Rattle.std.proofs.lemmas.List.{length-take, length-take-le, length-drop, get_or-take, get_or-drop, get_or_past}
use Rattle.std.specs.Prelude.{◌||◌}
use Rattle.std.specs.Option.{option_or}
use Rattle.ptpm_codec.specs.declared.error.DecodeError.{DecodeError}
use Rattle.ptpm_codec.specs.declared.identity.PortIdentity.{PortIdentity}
use Rattle.ptpm_codec.specs.declared.message.Action.{Action}
use Rattle.ptpm_codec.specs.declared.message.Body.{Body}
use Rattle.ptpm_codec.specs.declared.message.Message.{Message}
use Rattle.ptpm_codec.specs.declared.tlv.TlvKind.{TlvKind}
use Rattle.ptpm_codec.specs.declared.tlv.TlvKind.TheVariants.{Management, ErrorStatus}
use Rattle.ptpm_codec.specs.Layout.{octet, even_up, message_length, message_octets}
use Rattle.ptpm_codec.specs.PtpText.{is_ptp_text, ptp_text}
use Rattle.ptpm_codec.specs.Message.{action_code, is_reply, action_of, IsDataField, IsValid, IsValidBody, id_of, octets_of, error_of, text_of}
use Rattle.ptpm_codec.specs.Spelling.{Spells, SpellsBody, SpellsManagement, SpellsText}
use Rattle.ptpm_codec.specs.Refusal.{is_text, frame_refusal, tlv_refusal, text_refusal, message_refusal, refusal}
use Rattle.ptpm_codec.specs.Reading.{action_at, tlv_kind_at, body_from, body_at, message_at, reading, message_of, IsWellFormed, IsViewed}
use Rattle.ptpm_codec.proofs.OctetLaws.{octet-take, number-take}
use Rattle.ptpm_codec.proofs.RefusalLaws.{option_or-none, IsFramed, framed, not_refused-frame, IsTlv, is_tlv, not_refused-tlv, is_text-status, not_refused-status, not_refused-management}
use Rattle.ptpm_codec.specs.declared.message.Action.TheVariants as actions
use Rattle.ptpm_codec.specs.declared.message.Body.TheVariants as bodies
use Rattle.ptpm_codec.specs.Layout as layout

-- ---- actions and their numbers

action_code-small : (a : Action) → action_code a ≤ 4
action_code-small actions.Get = omega arith
action_code-small actions.Set = omega arith
action_code-small actions.Response = omega arith
action_code-small actions.Command = omega arith
action_code-small actions.Acknowledge = omega arith

-- the action that octets with this action's number have
action_at-code : (a : Action) (m : List ℕ) → action_code a ≡ layout.action_field m → a ≡ action_at m
action_at-code a m e = grind arith

-- ---- the parts of the body that octets have

pub action_of-body_from : (kind : TlvKind) (action : Action) (m : List ℕ)
    → action_of (body_from kind action m) ≡ action
action_of-body_from Management actions.Get m = refl
action_of-body_from Management actions.Set m = refl
action_of-body_from Management actions.Response m = refl
action_of-body_from Management actions.Command m = refl
action_of-body_from Management actions.Acknowledge m = refl
action_of-body_from ErrorStatus action m = refl

-- ---- texts

is_text-some : (t : ℕ) (xs : List ℕ) → is_text (t ∷ xs) ≡ is_ptp_text (t ∷ xs)
is_text-some t xs = ap (λ b. b || is_ptp_text (t ∷ xs)) (eqb-suc-zero (length xs))

spells_text : (d : List ℕ) → is_text d ≡ true → SpellsText (ptp_text d) d
spells_text [] h = inl (refl, refl)
spells_text (t ∷ xs) h = grind (arith, eqb-true, is_text-some)

text_spelled : (text d : List ℕ) → SpellsText text d → (is_text d ≡ true) × (text ≡ ptp_text d)
text_spelled text [] (inl (none, e)) = (refl, e)
text_spelled text [] (inr (some, e)) = (refl, e)
text_spelled text (t ∷ xs) (inl (none, e)) = absurd (omega arith)
text_spelled text (t ∷ xs) (inr (some, e)) = (is_text-some t xs ∙ eq-eqb (1 + length xs) (even_up (1 + t)) (omega (arith, some)), e)

even-text : (text d : List ℕ) (n : ℕ) → length d ≡ n - 60 → 60 ≤ n → SpellsText text d → n % 2 ≡ 0
even-text text d n rest whole (inl (none, e)) = omega (arith, rest, none)
even-text text d n rest whole (inr (some, e)) = omega (arith, rest, some)

-- ---- the body that is read is spelled

pub tlv_kind-management : (m : List ℕ) → layout.tlv_type m ≡ 1 → tlv_kind_at m ≡ Management
tlv_kind-management m e = rw e refl

tlv_kind-status : (m : List ℕ) → layout.tlv_type m ≡ 2 → tlv_kind_at m ≡ ErrorStatus
tlv_kind-status m e = rw e refl

spells_from : (m : List ℕ) (kind : TlvKind) → tlv_kind_at m ≡ kind
    → IsTlv (layout.action_field m) (layout.tlv_type m) (layout.length_field m) (length m)
    → text_refusal kind (layout.display_data m) ≡ None
    → SpellsBody (body_from kind (action_at m) m) m
spells_from m kind k t d = grind (arith, tlv_kind-management, tlv_kind-status, spells_text, is_text-status)

action_of-body_at : (m : List ℕ) → action_of (body_at m) ≡ action_at m
unfolding body_at
action_of-body_at m = action_of-body_from (tlv_kind_at m) (action_at m) m

-- ---- what is not refused is spelled

framed_of : (d : List ℕ) → IsWellFormed d → IsFramed d
framed_of d h = framed d (option_or-none (frame_refusal d) (message_refusal (message_octets d)) h).0

-- a well-formed datagram has a messageLength between these bounds
pub message_size : (d : List ℕ)
    → IsWellFormed d
    → (54 ≤ message_length d) × (message_length d ≤ length d) × (message_length d ≤ 1472)
message_size d h = let f = framed_of d h in (f.low, f.inside, f.high)

pub spelled : (d : List ℕ)
    → IsWellFormed d
    → Spells (message_at (message_octets d)) (message_octets d)
unfolding body_at
spelled d h = grind (arith, option_or-none, framed, length-take-le, is_tlv, octet-take, number-take, action_of-body_at, spells_from)

-- ---- what is spelled is what is read

body_management : (a : Action) (r : Bool) (m : List ℕ) → is_reply a ≡ r
    → body_from Management a m
    ≡ cond r (bodies.Answer a (layout.management_id m) (layout.data_field m))
    (bodies.Request a (layout.management_id m) (layout.data_field m))
body_management a r m h = rw h refl

body_spelled : (x : Body) (m : List ℕ)
    → action_code (action_of x) ≡ layout.action_field m
    → SpellsBody x m
    → x ≡ body_at m
unfolding body_at
body_spelled (bodies.Request a id octets) m code (request, s) = grind (arith, action_at-code, tlv_kind-management, body_management)
body_spelled (bodies.Answer a id octets) m code (reply, s) = grind (arith, action_at-code, tlv_kind-management, body_management)
body_spelled (bodies.Fault a error id text) m code (reply, s) =
    let t = (text_spelled text (layout.display_data m) s.text_is).1 in grind (arith, action_at-code, tlv_kind-status)

abbrev made : ℕ → ℕ → PortIdentity → ℕ → PortIdentity → ℕ → ℕ → Body → Message
made sdo domain source number target starting_hops hops body = record {
  sdo = sdo;
  domain = domain;
  source = source;
  number = number;
  target = target;
  starting_hops = starting_hops;
  hops = hops;
  body = body;
}

pub same_message : (v : Message) (m : List ℕ) → Spells v m → v ≡ message_at m
same_message v m s = grind (arith, body_spelled)

-- ---- what is spelled is not refused

tlv_management : (code : ℕ) (id : ℕ) (octets m : List ℕ)
    → code ≤ 4
    → 54 ≤ length m
    → layout.length_field m + 52 ≡ length m
    → SpellsManagement id octets m
    → IsTlv code (layout.tlv_type m) (layout.length_field m) (length m)
tlv_management code id octets m small low ends s =
    let type = s.type in grind arith

tlv_spelled : (x : Body) (m : List ℕ)
    → action_code (action_of x) ≡ layout.action_field m
    → 54 ≤ length m
    → layout.length_field m + 52 ≡ length m
    → SpellsBody x m
    → IsTlv (layout.action_field m) (layout.tlv_type m) (layout.length_field m) (length m)
tlv_spelled (bodies.Request a id octets) m code low ends (request, s) = grind (arith, tlv_management, action_code-small)
tlv_spelled (bodies.Answer a id octets) m code low ends (reply, s) = grind (arith, tlv_management, action_code-small)
tlv_spelled (bodies.Fault a error id text) m code low ends (reply, s) =
    let type = s.type in
    let whole = s.whole in
    let even = even-text text (layout.display_data m) (length m) (length-drop 60 m) whole s.text_is in grind (arith, action_code-small, action_at-code)

both_none : (p o : Option DecodeError) → p ≡ None → o ≡ None → option_or p o ≡ None
both_none p o x y = rw (x, y) refl

pub none_refused : (d : List ℕ) (v : Message) → Spells v (message_octets d) → IsWellFormed d
none_refused d v s = grind (arith, both_none, not_refused-frame, not_refused-tlv, tlv_spelled, tlv_kind-management, not_refused-management, tlv_kind-status, not_refused-status, text_spelled, length-take, number-take, octet-take)

pub not_both : (d : List ℕ) (v : Message) (e : DecodeError)
    → refusal d ≡ Some e
    → Spells v (message_octets d)
    → ⊥
not_both d v e h s = let none = none_refused d v s in cc

-- what passes each test in turn is spelled
pub spells_read : (d m : List ℕ) (kind : TlvKind) → frame_refusal d ≡ None → m ≡ message_octets d
    → tlv_refusal (layout.action_field m) (layout.tlv_type m) (layout.length_field m) (length m)
    ≡ None
    → kind ≡ tlv_kind_at m → text_refusal kind (layout.display_data m) ≡ None
    → Spells (message_at m) (message_octets d)
spells_read d m kind frame e tlv k text = grind (arith, both_none, spelled)

-- what passes each test in turn, and has a MANAGEMENT TLV, is well-formed
pub well_formed_management : (d m : List ℕ) → frame_refusal d ≡ None → m ≡ message_octets d
    → tlv_refusal (layout.action_field m) (layout.tlv_type m) (layout.length_field m) (length m)
    ≡ None
    → layout.tlv_type m ≡ 1
    → IsWellFormed d
well_formed_management d m frame e tlv one = grind (arith, none_refused, spells_read, tlv_kind-management, not_refused-management)

-- what is well-formed is read, and spelled

pub reading-well_formed : (d m : List ℕ)
    → IsWellFormed d
    → m ≡ message_octets d
    → reading d ≡ Ok (message_at m)
reading-well_formed d m h e = grind arith

pub spelled-well_formed : (d m : List ℕ)
    → IsWellFormed d
    → m ≡ message_octets d
    → Spells (message_at m) (message_octets d)
spelled-well_formed d m h e = subst (λ (n : List ℕ). Spells (message_at n) (message_octets d)) (sym e) (spelled d h)

-- ---- `message_of`

-- if `message_of` gives a value, the datagram is well-formed, and the value is the one read from its octets
pub message_of-some : (d : List ℕ) (v : Message)
    → message_of d ≡ Some v
    → IsWellFormed d × (v ≡ message_at (message_octets d))
unfolding message_of
message_of-some d v e = grind arith

pub message_of-spells : (v : Message) (d : List ℕ)
    → message_of d ≡ Some v
    → Spells v (message_octets d)
message_of-spells v d e = grind (arith, message_of-some, spelled)

pub spells-message_of : (v : Message) (d : List ℕ)
    → Spells v (message_octets d)
    → message_of d ≡ Some v
unfolding message_of
spells-message_of v d s = grind (arith, none_refused, same_message)

-- ---- what octets spell is valid

abbrev pub IsOctets : List ℕ → Type 0
IsOctets m = (i : ℕ) → get_or m i 0 < 256

pub octets-take : (n : ℕ) (m : List ℕ) → IsOctets m → IsOctets (take n m)
octets-take n m h i = grind (arith, cases_lt, get_or-take, get_or_past, length-take)

short-text : (text d : List ℕ) → octet 0 d < 256 → SpellsText text d → length text ≤ 255
short-text text d h (inl (none, e)) = rw e (omega arith)
short-text text d h (inr (some, e)) = rw e (omega (arith, length-take (octet 0 d) (drop 1 d)))

data_field-valid : (id : ℕ) (octets m : List ℕ)
    → length m ≤ 1472
    → SpellsManagement id octets m
    → IsDataField octets
data_field-valid id octets m high s =
    let len : length octets ≡ length m - 54 = ap length s.octets_are ∙ length-drop 54 m in grind arith

body_valid : (x : Body) (m : List ℕ) → IsOctets m → length m ≤ 1472 → SpellsBody x m → IsValidBody x
body_valid (bodies.Request a id octets) m h high (request, s) = (request, data_field-valid id octets m high s)
body_valid (bodies.Answer a id octets) m h high (reply, s) = (reply, data_field-valid id octets m high s)
body_valid (bodies.Fault a error id text) m h high (reply, s) =
    (reply, short-text text (layout.display_data m) (rw (get_or-drop 60 m 0 0) (h 60)) s.text_is)

pub valid_of : (v : Message) (m : List ℕ) → IsOctets m → Spells v m → IsValid v
valid_of v m h s = record { sdo = rw s.sdo (omega (arith, h 0, h 5)); body = body_valid v.body m h s.at_most s.body }

-- ---- the parts of the body that a view sees, by the kind of its TLV

-- the body of a view whose TLV was found to be of this kind
pub body_seen : (v : Message) (m : List ℕ) (action : Action) (kind found : TlvKind)
    → message_at m ≡ v → IsViewed m action kind → kind ≡ found → body_from found action m ≡ v.body
unfolding body_at
body_seen v m action kind found e i k =
    let seen : body_from kind action m ≡ body_at m = rw (i.action_is, i.kind_is) refl in grind arith

pub action_seen : (v : Message) (m : List ℕ) (action : Action) (kind : TlvKind)
    → message_at m ≡ v
    → IsViewed m action kind
    → action ≡ action_of v.body
action_seen v m action kind e i =
    sym (action_of-body_from kind action m) ∙ ap action_of (body_seen v m action kind kind e i refl)

-- a part of the body that a MANAGEMENT TLV carries, whatever the action
part : {X : Type 0} (f : Body → X) (x : X) (r : Bool) (y z : Body)
    → f y ≡ x
    → f z ≡ x
    → f (cond r y z) ≡ x
part f x true y z p q = p
part f x false y z p q = q

pub id_of-management : (action : Action) (m : List ℕ)
    → id_of (body_from Management action m) ≡ layout.management_id m
id_of-management action m = part id_of _ (is_reply action) _ _ refl refl

pub octets_of-management : (action : Action) (m : List ℕ)
    → octets_of (body_from Management action m) ≡ layout.data_field m
octets_of-management action m = part octets_of _ (is_reply action) _ _ refl refl

pub error_of-management : (action : Action) (m : List ℕ)
    → error_of (body_from Management action m) ≡ None
error_of-management action m = part error_of _ (is_reply action) _ _ refl refl

pub text_of-management : (action : Action) (m : List ℕ)
    → text_of (body_from Management action m) ≡ []
text_of-management action m = part text_of _ (is_reply action) _ _ refl refl

-- ---- a body is known by its parts

abbrev some : ℕ → Option ℕ
some n = Some n

same_some : (n k : ℕ) → some n ≡ some k → n ≡ k
same_some n k e = cc

pub fault_of-parts : (x : Body) (action : Action) (error id : ℕ) (text : List ℕ)
    → action ≡ action_of x
    → Some error ≡ error_of x
    → id ≡ id_of x
    → text ≡ text_of x
    → bodies.Fault action error id text ≡ x
fault_of-parts (bodies.Request a i octets) action error id text p q r s = absurd cc
fault_of-parts (bodies.Answer a i octets) action error id text p q r s = absurd cc
fault_of-parts (bodies.Fault a e i t) action error id text p q r s = rw (p, same_some error e q, r, s) refl

pub management_of-parts : (x : Body) (action : Action) (m : List ℕ) (kind : TlvKind) (r : Bool)
    (id : ℕ) (octets : List ℕ)
    → body_from kind action m ≡ x
    → None ≡ error_of x
    → id ≡ id_of x
    → octets ≡ octets_of x
    → r ≡ is_reply action
    → cond r (bodies.Answer action id octets) (bodies.Request action id octets) ≡ x
management_of-parts x action m kind r id octets e none p q h = grind (arith, id_of-management, octets_of-management)
