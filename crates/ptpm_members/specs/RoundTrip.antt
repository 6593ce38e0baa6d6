-- A text that is typed again.
use Rattle.std.specs.Prelude.{◌≡◌, ℕ, true, List, [], ◌∷◌, drop, flat_map}
use Rattle.ptpm_data.specs.ManagementId.{set_of}
use Rattle.ptpm_data.specs.Refusals.{is_set_length, is_set_value}
use Rattle.ptpm_data.specs.declared.management_id.Layout.{Layout}
use Rattle.ptpm_data.specs.SetLaws.{AreOctets}
use Rattle.ptpm_members.specs.declared.forms.Field.{Field}
use Rattle.ptpm_members.specs.Names.{member_name}
use Rattle.ptpm_members.specs.Tables.{fields_of}
use Rattle.ptpm_members.specs.ValueText.{value_text}

-- a member's name and its value, which are the words of its line
abbrev pub member_words : List ℕ → Field → List (List ℕ)
member_words octets f = member_name f.0 ∷ value_text f.2 (drop f.1 octets) ∷ []

-- the words of all lines of a dataField
abbrev pub words_of : Layout → List ℕ → List (List ℕ)
words_of layout octets = flat_map (member_words octets) (fields_of layout)

-- octets that a SET of a dataField of this layout may have
pub record IsInRange (layout : Layout) (octets : List ℕ) : Type 0 where
  pub are_octets : AreOctets octets
  pub size : is_set_length (set_of layout) octets ≡ true
  pub value : is_set_value (set_of layout) octets ≡ true
