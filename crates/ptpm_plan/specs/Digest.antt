-- The id of a plan (this project's profile): four octets of the SHA-256 (FIPS 180-4) of its changes, in their order.
use Rattle.std.specs.Prelude.{ℕ, List, [], ◌∷◌, ◌++◌, codes, decimal, flat_map, take}
use Rattle.hex.specs.Hex.{encode_lower}
use Rattle.sha2.specs.Sha256.{sha256}
use Rattle.ptpm_codec.specs.Identity.{clock_identity_text}
use Rattle.ptpm_plan.specs.PlannedId.{number_of}
use Rattle.ptpm_plan.specs.declared.change.Change.{Change}

-- a change as an object in JSON: which clock, which member of it, and the dataFields in hexadecimal
unfoldable pub clock_text : Change → List ℕ
clock_text c = ((codes "{\"clock\": \"" ++ clock_identity_text c.clock.0) ++ codes "\", \"domain\": ") ++ decimal c.domain

unfoldable pub member_text : Change → List ℕ
member_text c = ((codes ", \"port\": " ++ decimal c.port) ++ codes ", \"id\": ") ++ decimal (number_of c.id)

unfoldable pub fields_text : Change → List ℕ
fields_text c =
    (((codes ", \"before\": \"" ++ encode_lower c.before.items) ++ codes "\", \"after\": \"") ++ encode_lower c.after.items)
    ++ codes "\"}"

abbrev pub change_text : Change → List ℕ
change_text c = (clock_text c ++ member_text c) ++ fields_text c

abbrev pub next_text : Change → List ℕ
next_text c = codes ", " ++ change_text c

-- the changes as a list in JSON
abbrev pub changes_text : List Change → List ℕ
changes_text [] = codes "[]"
changes_text (c ∷ cs) = ((codes "[" ++ change_text c) ++ flat_map next_text cs) ++ codes "]"

abbrev pub digest_of : List Change → List ℕ
digest_of changes = take 4 (sha256 (changes_text changes))
