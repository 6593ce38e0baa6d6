-- The CRC-32 of octets (IEEE 802.3, 3.2.9): the remainder of their division by a polynomial. Of each octet the lowest bit comes
-- first, as on a line.
use Rattle.std.specs.Prelude.{◌<◌, ℕ, ◌-◌, ◌/◌, ◌%◌, ◌^◌, ◌==◌, List, [], ◌∷◌, bit_xor, if◌then◌else◌}

-- the polynomial without its highest power, the lowest power in the highest bit
abbrev pub polynomial : ℕ
polynomial = 0xedb88320

-- one bit is divided: if a 1 leaves the remainder, the polynomial is subtracted
unfoldable pub after_bit : ℕ → ℕ
after_bit r = if r % 2 == 1 then bit_xor (r / 2) polynomial else r / 2

abbrev pub after_four : ℕ → ℕ
after_four r = after_bit (after_bit (after_bit (after_bit r)))

unfoldable pub after_octet : ℕ → ℕ → ℕ
after_octet r octet = after_four (after_four (bit_xor r octet))

unfoldable pub after : ℕ → List ℕ → ℕ
after r [] = r
after r (octet ∷ octets) = after (after_octet r octet) octets

-- it begins with ones, and each bit of it is turned at the end
abbrev pub crc_of : List ℕ → ℕ
crc_of octets = 2 ^ 32 - 1 - after (2 ^ 32 - 1) octets

abbrev pub AreOctets : List ℕ → Type 0
AreOctets [] = Unit {0}
AreOctets (x ∷ xs) = (x < 2 ^ 8) × AreOctets xs
