-- A userDescription that is kept as a PTPText (IEEE 1588-2019, 5.3.9).
use Rattle.std.specs.Prelude.{◌≡◌, ℕ, ◌≤◌, List, length}
use Rattle.ptpm_codec.specs.PtpText.{ptp_text, ptp_text_octets}
use Rattle.ptpm_data.specs.declared.description.Description.TheInside.{Inside}

-- the text that the octets spell
abbrev pub text_of : Inside → List ℕ
text_of d = ptp_text d.octets.items

-- the octets are the PTPText of a text of 128 octets at most
pub record IsSpelled (d : Inside) : Type 0 where
  pub octets : d.octets.items ≡ ptp_text_octets (text_of d)
  pub small : length (text_of d) ≤ 128
