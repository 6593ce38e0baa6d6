-- A dataField in JSON: an object of its members, or its octets (this project's profile).
use Rattle.std.specs.Prelude.{ℕ, ◌+◌, ◌≤◌, if◌then◌else◌, List, [], ◌∷◌, length, drop, fold, Option, Some, None, codes, ⊤}
use Rattle.hex.specs.Hex.{encode_lower}
use Rattle.serde_json.specs.Data.{string, object, Members, no_members, put}
use Rattle.ptpm_members.specs.declared.forms.Field.{Field}
use Rattle.ptpm_members.specs.FieldText.{IsPlaced, members_in}
use Rattle.ptpm_members.specs.Names.{member_name}
use Rattle.ptpm_message_json.specs.Names.{is_in_quality, quality_name}
use Rattle.ptpm_message_json.specs.Values.{quality_data, quality_in, value_data}

-- ---- the members

-- a ClockQuality has four octets
abbrev pub HasQuality : Option (List ℕ) → ℕ → List ℕ → Type 0
HasQuality None at octets = ⊤
HasQuality (Some name) at octets = at + 4 ≤ length octets

-- the octets of a member are at its place
pub record IsTellable (octets : List ℕ) (f : Field) : Type 0 where
  pub placed : IsPlaced octets f
  pub quality : HasQuality (quality_name f.0) f.1 octets

abbrev pub put_by : Option (List ℕ) → List ℕ → Field → Members → Members
put_by (Some name) octets f ms = put name (quality_data (quality_in (drop f.1 octets))) ms
put_by None octets f ms = if is_in_quality f.0 then ms else put (member_name f.0) (value_data f.2 (drop f.1 octets)) ms

-- the object with a member: those of a ClockQuality come with its first
unfoldable pub put_field : List ℕ → Members → Field → Members
put_field octets ms f = put_by (quality_name f.0) octets f ms

unfoldable pub members_data : List ℕ → List Field → Members
members_data octets fs = fold (put_field octets) no_members fs

-- ---- the dataField

abbrev pub put_data : List ℕ → List Field → Members → Members
put_data octets [] ms = put (codes "dataField") (string (encode_lower octets)) ms
put_data octets (f ∷ fs) ms = put (codes "members") (object (members_data octets (f ∷ fs))) ms

-- the object with the dataField of an id: its members, or its octets in hexadecimal, if there is no member or another number of
-- octets
unfoldable pub put_data_field : ℕ → List ℕ → Members → Members
put_data_field id octets ms = put_data octets (members_in id octets) ms
