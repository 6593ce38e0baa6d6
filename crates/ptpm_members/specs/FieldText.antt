-- The lines of a dataField: a member's name in the standard and its value (this project's profile).
use Rattle.std.specs.Prelude.{ℕ, ◌≤◌, if◌then◌else◌, List, [], ◌∷◌, ◌++◌, length, drop, Option, Some, None, codes, flat_map}
use Rattle.ptpm_data.specs.ManagementId.{RowValue, row_of}
use Rattle.ptpm_members.specs.declared.forms.Field.{Field}
use Rattle.ptpm_members.specs.Names.{member_name}
use Rattle.ptpm_members.specs.declared.other_ids.OtherId.{OtherId}
use Rattle.ptpm_members.specs.OtherIds.{fields_of_other, other_of}
use Rattle.ptpm_members.specs.Tables.{fields_of, is_whole}
use Rattle.ptpm_members.specs.Values.{HasValue}
use Rattle.ptpm_members.specs.ValueText.{octets_text, value_text}

-- a dataField of the right length has its members at their places
pub record IsPlaced (octets : List ℕ) (f : Field) : Type 0 where
  pub within : f.1 ≤ length octets
  pub value : HasValue f.2 (drop f.1 octets)

-- the members of an id of the table, or of another that is only read
abbrev pub members_by : Option RowValue → Option OtherId → List ℕ → List Field
members_by None other octets = fields_of_other other octets
members_by (Some row) other octets = if is_whole row.layout octets then fields_of row.layout else []

-- the members that the octets have: none if they are no dataField of the id
unfoldable pub members_in : ℕ → List ℕ → List Field
members_in id octets = members_by (row_of id) (other_of id) octets

abbrev pub line : List ℕ → List ℕ → List ℕ → List ℕ
line lead name value = lead ++ name ++ codes " " ++ value ++ 10 ∷ []

unfoldable pub member_line : List ℕ → List ℕ → Field → List ℕ
member_line lead octets f = line lead (member_name f.0) (value_text f.2 (drop f.1 octets))

unfoldable pub octets_line : List ℕ → List ℕ → List ℕ
octets_line lead octets = line lead (codes "value") (octets_text octets)

abbrev pub lines : List ℕ → List ℕ → List Field → List ℕ
lines lead octets [] = octets_line lead octets
lines lead octets (f ∷ fs) = flat_map (member_line lead octets) (f ∷ fs)

-- a line for each member; or one with the octets, if there is no member, or another number of octets
unfoldable pub field_text : List ℕ → ℕ → List ℕ → List ℕ
field_text lead id octets = lines lead octets (members_in id octets)
