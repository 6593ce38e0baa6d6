-- The sizes of the structs of the header for C, in its order: those that calls take by pointers.
use Rattle.std.specs.Prelude.{ℕ, List, [], ◌∷◌}

-- A handle is a pointer and a flag. A place for a message has its port, its size and 1,472 octets, and one for an answer 184. What a device says has an error,
-- a size, a kind and 1,418 octets. What came of a datagram has two numbers of eight octets, and the members that changed.
abbrev pub header_sizes : List ℕ
header_sizes = 16 ∷ 216 ∷ 16 ∷ 88 ∷ 16 ∷ 12 ∷ 1476 ∷ 188 ∷ 24 ∷ 68 ∷ 16 ∷ 26 ∷ 16 ∷ 16 ∷ 10 ∷ 196616 ∷ 24 ∷ 16 ∷ 36 ∷ 24 ∷ 150 ∷ 1424
    ∷ 36 ∷ 10 ∷ 88 ∷ 16 ∷ 48 ∷ 16 ∷ 16 ∷ 12 ∷ []
