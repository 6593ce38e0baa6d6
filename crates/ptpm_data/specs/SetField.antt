-- What the dataField of a SET says (IEEE 1588-2019, 15.5.3). Reserved octets and bits are not read.
use Rattle.std.specs.Prelude.{ℕ, ◌^◌, Bool, ◌==◌, bit_and, List, slice_index, ℤ}
use Rattle.std.specs.Int.{w8, w16, cast_signed}
use Rattle.byteorder.specs.Endian.{big_number}

abbrev pub octet : ℕ → List ℕ → ℕ
octet place octets = slice_index octets place

-- the first octet as an Integer8, the first two as an Integer16
unfoldable pub first_i8 : List ℕ → ℤ
first_i8 octets = cast_signed w8 (octet 0 octets)

unfoldable pub first_i16 : List ℕ → ℤ
first_i16 octets = cast_signed w16 (big_number 2 octets)

abbrev pub has_bit : ℕ → ℕ → Bool
has_bit n octet = bit_and octet (2 ^ n) == 2 ^ n
