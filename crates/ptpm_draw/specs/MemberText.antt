-- The texts of the members that an event changed (this project's profile).
use Rattle.std.specs.Prelude.{ℕ, ◌-◌, ◌*◌, ◌/◌, ◌%◌, ◌^◌, ◌==◌, Bool, if◌then◌else◌, List, [], ◌∷◌, ◌++◌, Option, Some, None, codes, decimal, drop, flat_map, slice_get, take}
use Rattle.ptpm_data.specs.declared.changed.ChangedMembers.{ChangedMembers}
use Rattle.ptpm_data.specs.declared.changed.PortMembers.{PortMembers}
use Rattle.ptpm_data.specs.declared.members.Member.{Member}
use Rattle.ptpm_data.specs.MemberNames.{member_name, member_place}
use Rattle.ptpm_data.specs.DataField.{data_field_of_id}
use Rattle.ptpm_data.specs.Members.{has_port}
use Rattle.ptpm_draw.specs.declared.changes.Change.{Change}
use Rattle.ptpm_draw.specs.declared.members.ValueText.{ValueText}
use Rattle.ptpm_draw.specs.declared.members.ValueText.TheVariants as shown
use Rattle.ptpm_members.specs.FieldText.{members_in}
use Rattle.ptpm_members.specs.declared.forms.Field.{Field}
use Rattle.ptpm_members.specs.declared.forms.Form.{Form}
use Rattle.ptpm_members.specs.declared.forms.Form.TheVariants as forms
use Rattle.ptpm_members.specs.declared.names.Member.{Member as FieldMember}
use Rattle.ptpm_members.specs.declared.names.Member.TheVariants as names
use Rattle.ptpm_members.specs.Values as values
use Rattle.ptpm_members.specs.Values.{Said, said, said_in}
use Rattle.ptpm_members.specs.ValueText.{said_text, shown_text}
use Rattle.ptpm_text.specs.OctetText.{text_of_octets}

-- one that is a text itself is in quotation marks
abbrev pub said_shown : Said → List ℕ
said_shown (values.Text octets) = 34 ∷ shown_text octets ++ 34 ∷ []
said_shown value = said_text value

-- the value of a member whose octets come first, as each text has it: what is in hexadecimal there is so here
abbrev pub value_shown : Form → List ℕ → List ℕ
value_shown (forms.Hexadecimal n) octets = codes "0x" ++ text_of_octets (take n octets)
value_shown form octets = said_shown (said_in form octets)

-- one of the program
abbrev pub value_text : ValueText → List ℕ
value_text (shown.Hexadecimal octets) = codes "0x" ++ text_of_octets octets.now
value_text (shown.Quoted value) = 34 ∷ said_text (said value) ++ 34 ∷ []
value_text (shown.Plain value) = said_text (said value)

-- the port, unless it is a member of the clock
abbrev pub port_shown : ℕ → List ℕ
port_shown port = if port == 0 then [] else codes "port " ++ decimal port ++ codes " "

-- the name in a network file, and the text of the value
unfoldable pub member_shown : ℕ → Member → List ℕ → List ℕ
member_shown port member value = port_shown port ++ member_name member ++ codes " " ++ value

-- ---- the members that changed

-- a bit for each member, at its place: those of a port come after those of the clock
abbrev pub port_bits : Option PortMembers → ℕ
port_bits None = 0
port_bits (Some members) = members.0 * 2 ^ 30

-- of a port, or of the clock by 0
abbrev pub changed_bits : ChangedMembers → ℕ → ℕ
changed_bits members port = if port == 0 then members.clock.0 else port_bits (slice_get members.ports (port - 1))

unfoldable pub is_changed : ChangedMembers → ℕ → Member → Bool
is_changed members port member = changed_bits members port / 2 ^ member_place member % 2 == 1

-- the text of a member that octets have, if it changed
abbrev pub text_of : ChangedMembers → ℕ → List ℕ → Field → FieldMember → List (List ℕ)
text_of members port octets field (names.DataSet member) =
    if is_changed members port member then member_shown port member (value_shown field.2 (drop field.1 octets)) ∷ [] else []
text_of members port octets field other = []

unfoldable pub texts_of : ChangedMembers → ℕ → List ℕ → List Field → List (List ℕ)
texts_of members port octets fields = flat_map (λ (f : Field). text_of members port octets f f.0) fields

-- those of an id's dataField
abbrev pub changed_texts : Change → ℕ → ℕ → List (List ℕ)
changed_texts change id port =
    let octets = data_field_of_id id port change.sets in texts_of change.members port octets (members_in id octets)

-- those of a port, if the clock has it
abbrev pub port_texts : Change → ℕ → List (List ℕ)
port_texts change port = if has_port port change.sets then changed_texts change 0x2004 port else []

-- those of the clock: of USER_DESCRIPTION and of its data sets (15.5.3)
abbrev pub clock_texts : Change → List (List ℕ)
clock_texts change = flat_map (λ id. changed_texts change id 0) (0x0002 ∷ 0x2000 ∷ 0x2001 ∷ 0x2002 ∷ 0x2003 ∷ [])

-- and those of its ports
abbrev pub member_texts : Option Change → List (List ℕ)
member_texts None = []
member_texts (Some change) = clock_texts change ++ flat_map (port_texts change) (1 ∷ 2 ∷ 3 ∷ 4 ∷ 5 ∷ 6 ∷ 7 ∷ 8 ∷ [])
