-- A text that is kept as its PTPText.
use Rattle.std.proofs.Common.{arith, ◌≡◌, ℕ, ◌≤◌, true, List, length}
use Rattle.std.proofs.lemmas.Bool.{eq-eqb}
use Rattle.std.proofs.lemmas.List.{take_at, take_rest}
use Rattle.ptpm_codec.specs.PtpText.{is_ptp_text, ptp_text_octets}
use Rattle.ptpm_codec.proofs.OctetLaws.{ptp_text_size}
use Rattle.ptpm_data.specs.declared.description.Description.TheInside.{Inside}
use Rattle.ptpm_data.specs.Description.{IsSpelled, text_of}
use Rattle.std.proofs.lemmas.Int.{to_z-of_z}
use Rattle.std.proofs.lemmas.Str.{is_utf8-from_IsUtf8, IsUtf8-from_is_utf8}

pub is_ptp_text-octets : (text : List ℕ) → is_ptp_text (ptp_text_octets text) ≡ true
unfolding ptp_text_octets
is_ptp_text-octets text = grind (arith, ptp_text_size, eq-eqb)

pub text_spelled : (d : Inside) (text : List ℕ) → d.octets.items ≡ ptp_text_octets text → text_of d ≡ text
unfolding ptp_text_octets
text_spelled d text e = grind (arith, take_at)

pub is_spelled : (d : Inside) (text : List ℕ) → d.octets.items ≡ ptp_text_octets text → length text ≤ 128 → IsSpelled d
is_spelled d text e small = grind (arith, text_spelled)

pub ruleset text_laws = (is_ptp_text-octets)

pub ruleset i64_at_laws = (to_z-of_z, take_rest)

pub ruleset is_utf8_laws = (is_utf8-from_IsUtf8, IsUtf8-from_is_utf8)
