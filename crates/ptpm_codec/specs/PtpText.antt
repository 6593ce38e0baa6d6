-- A PTPText (IEEE 1588-2019, 5.3.9): a length octet, the text, and a pad octet if the number of both is odd.
use Rattle.std.specs.Prelude.{ℕ, ◌+◌, ◌%◌, Bool, false, ◌==◌, List, [], ◌∷◌, ◌++◌, length, replicate, take}
use Rattle.ptpm_codec.specs.Layout.{even_up}

-- a text as a PTPText
unfoldable pub ptp_text_octets : List ℕ → List ℕ
ptp_text_octets text = length text ∷ text ++ replicate ((1 + length text) % 2) 0

-- the octets are a PTPText that ends where they end
abbrev pub is_ptp_text : List ℕ → Bool
is_ptp_text [] = false
is_ptp_text (t ∷ xs) = 1 + length xs == even_up (1 + t)

-- its text: as many octets as the first one says
abbrev pub ptp_text : List ℕ → List ℕ
ptp_text [] = []
ptp_text (t ∷ xs) = take t xs
