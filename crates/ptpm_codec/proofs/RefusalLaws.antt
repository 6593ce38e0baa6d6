-- What holds of a datagram if no refusal's test does, and if no test of an order does.
use Rattle.std.proofs.Common.{◌≡◌, Bool, true, false, List, ◌∷◌, Option, Some, None, refl, arith, ℕ, ◌+◌, ◌%◌, ◌≤◌, not, cond, length, ◌⊎◌}
use Rattle.std.specs.Option.{option_or}
use Rattle.ptpm_codec.specs.Ordered.{first_of}
use Rattle.std.proofs.lemmas.Bool.{ltb-false, le-ltb, eqb-true, eq-eqb, not-false, not_from_true, or_parts, or_from, and_cases, and_parts}
use Rattle.ptpm_codec.specs.declared.error.DecodeError.{DecodeError}
use Rattle.ptpm_codec.specs.declared.error.DecodeError.TheVariants.{BadText}
use Rattle.ptpm_codec.specs.declared.tlv.TlvKind.TheVariants.{Management, ErrorStatus}
use Rattle.ptpm_codec.specs.Layout.{message_length}
use Rattle.ptpm_codec.specs.Message.{is_reply}
use Rattle.ptpm_codec.specs.Refusal.{action_from, least_length, is_text, frame_refusal, tlv_refusal, text_refusal}
use Rattle.ptpm_codec.specs.Layout as layout

-- ---- what holds if no test of an order does

pub option_or-none : {A : Type 0} (o p : Option A) → option_or o p ≡ None → (o ≡ None) × (p ≡ None)
option_or-none None p e = (refl, e)
option_or-none (Some a) p e = absurd cc

pub first_of-none : {A : Type 0} (test : Bool) (a : A) (rest : List (Bool × A))
    → first_of ((test, a) ∷ rest) ≡ None
    → (test ≡ false) × (first_of rest ≡ None)
first_of-none true a rest e = absurd cc
first_of-none false a rest e = (refl, e)

-- ---- what holds of a datagram if no refusal's test does

-- one test of the list, and the tests after it
passes : (test : Bool) (e : DecodeError) (o : Option DecodeError)
    → cond test (Some e) o ≡ None
    → (test ≡ false) × (o ≡ None)
passes true e o h = absurd cc
passes false e o h = (refl, h)

skips : (test : Bool) (e : DecodeError) (o : Option DecodeError)
    → test ≡ false
    → o ≡ None
    → cond test (Some e) o ≡ None
skips true e o f h = absurd cc
skips false e o f h = h

-- ---- the frame: the header of a management message, and enough octets

pub record IsFramed (d : List ℕ) : Type 0 where
  pub at_least : 54 ≤ length d
  pub message_type : layout.message_type d ≡ 13
  pub version_ptp : layout.version_ptp d ≡ 2
  pub low : 54 ≤ message_length d
  pub inside : message_length d ≤ length d
  pub high : message_length d ≤ 1472

pub framed : (d : List ℕ) → frame_refusal d ≡ None → IsFramed d
unfolding frame_refusal
framed d h = grind (arith, passes, or_parts, ltb-false, eqb-true, not-false)

pub not_refused-frame : (d : List ℕ) → IsFramed d → frame_refusal d ≡ None
unfolding frame_refusal
not_refused-frame d f = grind (arith, skips, le-ltb, not_from_true, eq-eqb, or_from)

-- ---- the numbers of the TLV

-- the action's number, tlvType, lengthField, and the message's length
pub record IsTlv (code type field size : ℕ) : Type 0 where
  pub action : code ≤ 4
  pub tlv_type : (type ≡ 1) ⊎ ((type ≡ 2) × (is_reply (action_from code) ≡ true))
  pub even : field % 2 ≡ 0
  pub least : least_length type ≤ field
  pub ends : field + 52 ≡ size

pub is_tlv : (code type field size : ℕ)
    → tlv_refusal code type field size ≡ None
    → IsTlv code type field size
unfolding tlv_refusal
is_tlv code type field size h = grind (arith, passes, or_parts, ltb-false, eqb-true, not-false, and_cases, and_parts)

pub not_refused-tlv : (code type field size : ℕ)
    → IsTlv code type field size
    → tlv_refusal code type field size ≡ None
unfolding tlv_refusal
not_refused-tlv code type field size t = grind (arith, skips, le-ltb, or_from, not_from_true, eq-eqb)

-- ---- displayData

pub is_text-status : (d : List ℕ) → text_refusal ErrorStatus d ≡ None → is_text d ≡ true
unfolding text_refusal
is_text-status d h = not-false _ (passes (not (is_text d)) BadText None h).0

pub not_refused-status : (d : List ℕ) → is_text d ≡ true → text_refusal ErrorStatus d ≡ None
unfolding text_refusal
not_refused-status d h = skips (not (is_text d)) BadText None (not_from_true _ h) refl

pub not_refused-management : (d : List ℕ) → text_refusal Management d ≡ None
unfolding text_refusal
not_refused-management d = refl
