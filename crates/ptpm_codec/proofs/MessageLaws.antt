-- Laws of message values, and of the identities in them.
use Rattle.std.proofs.Common.{arith, ◌≡◌, ℕ, ◌==◌, ◌<◌, true, List, length, get_or, refl, sym, ◌∙◌, ap}
use Rattle.std.specs.Int.{from_be_bytes, to_be_bytes, w64}
use Rattle.std.specs.Str.{bytes_eq}
use Rattle.std.proofs.lemmas.Bool.{and_parts, eqb-true, leb-true}
use Rattle.std.proofs.lemmas.Bool.Decides.{Decides-eqb, same_from_decides}
use Rattle.std.proofs.lemmas.Nat.{be_bytes_8}
use Rattle.std.proofs.lemmas.Slice.Eq.{bytes_eq-Decides}
use Rattle.ptpm_codec.specs.declared.identity.ClockIdentity.{ClockIdentity}
use Rattle.ptpm_codec.specs.declared.identity.PortIdentity.{PortIdentity}
use Rattle.ptpm_codec.specs.Identity.{same_clock, same_identity}
use Rattle.ptpm_codec.specs.declared.message.Action.{Action}
use Rattle.ptpm_codec.specs.Message.{is_data_field, is_reply, reply_action, IsDataField}
use Rattle.ptpm_codec.specs.declared.message.Action.TheVariants as actions

-- ---- identities: the test of equality, and eight octets distinguished by the number that they spell

pub octets_by_number : (a b : List ℕ) (m n : ℕ)
    → length a ≡ 8
    → length b ≡ 8
    → ((i : ℕ) → get_or a i 0 < 256)
    → ((i : ℕ) → get_or b i 0 < 256)
    → m ≡ from_be_bytes w64 a
    → n ≡ from_be_bytes w64 b
    → (m == n) ≡ bytes_eq a b
octets_by_number a b m n la lb sa sb ma nb =
    let forth : m == n ≡ true → a ≡ b = λ e.
    sym (be_bytes_8 a m la sa ma) ∙ (ap (to_be_bytes w64) ((Decides-eqb m n).0 e) ∙ be_bytes_8 b n lb sb nb) in
    let back : a ≡ b → m == n ≡ true = grind (arith, Decides-eqb) in grind (arith, same_from_decides, bytes_eq-Decides)

pub same_clock-true : (a b : ClockIdentity) → same_clock a b ≡ true → a ≡ b
same_clock-true a b h = let octets = (bytes_eq-Decides a.0 b.0).0 h in (λ i. record { 0 = octets i })

pub same_clock-refl : (a : ClockIdentity) → same_clock a a ≡ true
same_clock-refl a = (bytes_eq-Decides a.0 a.0).1 refl

pub same_identity-true : (a b : PortIdentity) → same_identity a b ≡ true → a ≡ b
same_identity-true a b h =
    let parts = and_parts (same_clock a.clock b.clock) _ h in
    let clock : a.clock ≡ b.clock = same_clock-true a.clock b.clock parts.0 in
    let port : a.port ≡ b.port = eqb-true a.port b.port parts.1 in
    λ i. record { clock = clock i; port = port i }

-- ---- laws of message values

-- what the test of a dataField lets pass has the facts
pub is_data_field-IsDataField : (octets : List ℕ) → is_data_field octets ≡ true → IsDataField octets
is_data_field-IsDataField octets h = grind (arith, and_parts, eqb-true, leb-true)

pub reply_action-is_reply : (a : Action) → is_reply (reply_action a) ≡ true
reply_action-is_reply actions.Get = refl
reply_action-is_reply actions.Set = refl
reply_action-is_reply actions.Response = refl
reply_action-is_reply actions.Command = refl
reply_action-is_reply actions.Acknowledge = refl
