-- Records in a file: each in a frame of its size and of a CRC-32 that goes on from the one before (this project's profile).
use Rattle.std.specs.Prelude.{◌≡◌, ◌≤◌, ◌<◌, ◌+◌, ◌^◌, ◌==◌, nat_lt, ℕ, Bool, true, List, [], ◌∷◌, ◌++◌, length, take, drop, if◌then◌else◌, ◌&&◌}
use Rattle.byteorder.specs.Endian.{big_bytes, big_number}
use Rattle.ptpm_seal.specs.Crc.{crc_of}
use Rattle.ptpm_journal.specs.declared.framing.Frame.{Frame}
use Rattle.ptpm_journal.specs.declared.framing.Frame.TheVariants as frames

-- the size of a body, and the body
abbrev pub counted : List ℕ → List ℕ
counted body = big_bytes 2 (length body) ++ body

-- the CRC-32 after one more record
abbrev pub crc_after : ℕ → List ℕ → ℕ
crc_after crc octets = crc_of (big_bytes 4 crc ++ octets)

abbrev pub framed : ℕ → List ℕ → List ℕ
framed crc body = counted body ++ big_bytes 4 (crc_after crc (counted body))

-- all records of a journal, by their bodies
abbrev pub octets_of : ℕ → List (List ℕ) → List ℕ
octets_of crc [] = []
octets_of crc (body ∷ bodies) = framed crc body ++ octets_of (crc_after crc (counted body)) bodies

abbrev pub AreBodies : List (List ℕ) → Type 0
AreBodies [] = Unit {0}
AreBodies (body ∷ bodies) = (1 ≤ length body) × (length body < 2 ^ 16) × AreBodies bodies

-- ---- read

abbrev pub are_zeros : List ℕ → Bool
are_zeros [] = true
are_zeros (octet ∷ octets) = octet == 0 && are_zeros octets

abbrev pub size_in : List ℕ → ℕ
size_in octets = big_number 2 octets

-- The end comes next if zeros are left, or fewer octets than the size says. Otherwise a body of this size, if its CRC-32 is right
unfoldable pub frame_at : ℕ → List ℕ → Frame
frame_at crc octets =
    if are_zeros octets then frames.Torn
    else if nat_lt (length octets) (size_in octets + 6) then frames.Torn
    else if size_in octets == 0 then frames.Damaged
    else if big_number 4 (drop (size_in octets + 2) octets) == crc_after crc (take (size_in octets + 2) octets)
    then frames.Whole (size_in octets)
    else frames.Damaged

-- these bodies are read from octets, and then their end is found
abbrev pub AreReadFrom : ℕ → List ℕ → List (List ℕ) → Type 0
AreReadFrom crc octets [] = frame_at crc octets ≡ frames.Torn
AreReadFrom crc octets (body ∷ bodies) =
    (frame_at crc octets ≡ frames.Whole (length body)) × (take (length body) (drop 2 octets) ≡ body)
    × AreReadFrom (crc_after crc (counted body)) (drop (length body + 6) octets) bodies

abbrev pub IsBeginning : List (List ℕ) → List (List ℕ) → Type 0
IsBeginning [] bodies = Unit {0}
IsBeginning (x ∷ xs) [] = ⊥
IsBeginning (x ∷ xs) (y ∷ ys) = (x ≡ y) × IsBeginning xs ys
