-- Octets as text (this project's profile).
use Rattle.std.specs.Prelude.{ℕ, List, [], ◌∷◌, codes, flat_map}
use Rattle.ptpm_codec.specs.Identity.{octet_text}

-- two hexadecimal digits in lower case for each octet, or a dash if there is none
unfoldable pub text_of_octets : List ℕ → List ℕ
text_of_octets [] = codes "-"
text_of_octets (octet ∷ more) = flat_map octet_text (octet ∷ more)
