-- An image that is sealed: 16 octets after it, by which damage to it is found (this project's profile).
use Rattle.std.specs.Prelude.{◌+◌, ◌==◌, ◌&&◌, not, nat_le, Bool, ℕ, List, ◌++◌, length, take, drop, codes, bytes_eq, Result, Ok, Err, if◌then◌else◌}
use Rattle.byteorder.specs.Endian.{big_bytes, big_number}
use Rattle.ptpm_manager.specs.Image.{mark}
use Rattle.ptpm_seal.specs.Crc.{crc_of}
use Rattle.ptpm_seal.specs.declared.sealing.Sealed.{Sealed}
use Rattle.ptpm_seal.specs.declared.sealing.UnsealError.{UnsealError}
use Rattle.ptpm_seal.specs.declared.sealing.UnsealError.TheVariants as unseals

-- ---- the seal

abbrev pub seal_mark : List ℕ
seal_mark = codes "ptps"

-- a mark, how often the image was saved, and the CRC-32 of the image and of both
abbrev pub counted : ℕ → List ℕ
counted count = seal_mark ++ big_bytes 8 count

unfoldable pub seal_of : List ℕ → ℕ → List ℕ
seal_of image count = counted count ++ big_bytes 4 (crc_of (image ++ counted count))

-- ---- an image and its seal at the head of a place, whatever comes after them

-- how many octets the image has, by its head
unfoldable pub image_size : List ℕ → ℕ
image_size octets = 12 + big_number 4 (drop 8 octets)

abbrev pub is_headed : List ℕ → Bool
is_headed octets = nat_le 12 (length octets) && bytes_eq (take 4 octets) mark

-- the count that a seal after this many octets has
unfoldable pub count_after : ℕ → List ℕ → ℕ
count_after size octets = big_number 8 (drop (size + 4) octets)

-- after this many octets come a mark, a count, and the CRC-32 of all before it
unfoldable pub is_sealed : ℕ → List ℕ → Bool
is_sealed size octets =
    nat_le (size + 16) (length octets)
    && bytes_eq (take 4 (drop size octets)) seal_mark
    && big_number 4 (drop (size + 12) octets) == crc_of (take (size + 12) octets)

unfoldable pub unsealed : List ℕ → Result Sealed UnsealError
unsealed octets =
    if not (is_headed octets) then Err unseals.NotAnImage
    else if is_sealed (image_size octets) octets
    then Ok (record { size = image_size octets; count = count_after (image_size octets) octets })
    else Err unseals.Damaged
