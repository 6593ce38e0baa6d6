-- The dataField that a plan asks for (IEEE 1588-2019, 15.5.3; how a member is typed is this project's profile).
use Rattle.std.specs.Prelude.{ℕ, ◌==◌, not, bit_and, List, [], ◌∷◌, codes, ℤ, Option, Some, None, Result}
use Rattle.std.specs.Fmt.{signed_decimal}
use Rattle.std.specs.Int.{w16, cast_signed}
use Rattle.ptpm_data.specs.SetField.{octet}
use Rattle.ptpm_members.specs.declared.parsing.ParseFault.{ParseFault}
use Rattle.ptpm_members.specs.Parsed.{parsed}
use Rattle.ptpm_members.specs.ValueText.{flag_name}
use Rattle.ptpm_plan.specs.declared.change.PlannedId.{PlannedId}
use Rattle.ptpm_plan.specs.declared.wish.UtcWish.{UtcWish}
use Rattle.ptpm_plan.specs.declared.wish.Wished.{Wished}
use Rattle.ptpm_plan.specs.declared.wish.Wished.TheVariants as wished
use Rattle.ptpm_plan.specs.Octets.{pair_at}
use Rattle.ptpm_plan.specs.PlannedId.{number_of}

-- what is typed for a member, or else what it is
abbrev pub typed_or : Option (List ℕ) → List ℕ → List ℕ
typed_or None kept = kept
typed_or (Some typed) kept = typed

-- currentUtcOffset, and a flag, in the dataField of UTC_PROPERTIES (15.5.3.6.2)
unfoldable pub offset_of : List ℕ → ℤ
offset_of field = cast_signed w16 (pair_at 0 field)

unfoldable pub flag_of : ℕ → List ℕ → List ℕ
flag_of mask field = flag_name (not (bit_and (octet 2 field) mask == 0))

-- UTC_PROPERTIES as it is typed: each member's name and value
unfoldable pub utc_parsed : List ℕ → List ℕ → List ℕ → List ℕ → Result (List ℕ) ParseFault
utc_parsed offset leap61 leap59 valid =
    parsed 0x2011
    (codes "currentUtcOffset" ∷ offset ∷ codes "leap61" ∷ leap61 ∷ codes "leap59" ∷ leap59
    ∷ codes "currentUtcOffsetValid" ∷ valid ∷ [])

-- UTC_PROPERTIES with what is wished of it; members that are left out are typed as they are
unfoldable pub utc_after : UtcWish → List ℕ → Result (List ℕ) ParseFault
utc_after w before =
    utc_parsed (typed_or w.offset (signed_decimal (offset_of before))) (typed_or w.leap61 (flag_of 1 before))
    (typed_or w.leap59 (flag_of 2 before)) (typed_or w.valid (flag_of 4 before))

-- the dataField that a SET is to have, of an id whose dataField is this before; or why there is none
abbrev pub after : PlannedId → Wished → List ℕ → Result (List ℕ) ParseFault
after id (wished.Alone typed) before = parsed (number_of id) (typed ∷ [])
after id (wished.UtcProperties w) before = utc_after w before
