-- A plan as an object in JSON: its name and its changes, by the standard's names (this project's profile).
use Rattle.std.specs.Prelude.{◌≡◌, ℕ, ◌+◌, ◌==◌, if◌then◌else◌, codes, List, [], ◌∷◌, ◌++◌, Some}
use Rattle.hex.specs.Hex.{encode_lower}
use Rattle.serde_json.specs.Data.{Data, null, number, string, array, object, unsigned, Members, no_members}
use Rattle.serde_json.specs.Find.{get}
use Rattle.serde_json.specs.View.{items_of}
use Rattle.serde_json.specs.Written.{IsInOrder}
use Rattle.ptpm_members.specs.FieldText.{members_in}
use Rattle.ptpm_message_json.specs.DataField.{members_data}
use Rattle.ptpm_message_json.specs.MessageJson.{with_members}
use Rattle.ptpm_message_json.specs.Values.{clock_data}
use Rattle.ptpm_plan.specs.Digest.{digest_of}
use Rattle.ptpm_plan.specs.FileText.{name_of}
use Rattle.ptpm_plan.specs.PlannedId.{number_of}
use Rattle.ptpm_plan.specs.declared.change.Change.{Change}
use Rattle.ptpm_plan.specs.declared.change.PlannedId.{PlannedId}
use Rattle.ptpm_plan.specs.declared.subject.Subject.{Subject}

-- port 0 means the clock itself
abbrev pub port_data : ℕ → Data
port_data port = if port == 0 then null else number (unsigned port)

-- which member it is
unfoldable pub subject_data : Subject → Members
subject_data s = with_members
    ((codes "domainNumber", number (unsigned s.domain))
    ∷ (codes "clockIdentity", clock_data s.clock)
    ∷ (codes "portNumber", port_data s.port)
    ∷ (codes "managementId", string (name_of s.id))
    ∷ []) no_members

abbrev pub subject_of : Change → Subject
subject_of c = record { domain = c.domain; clock = c.clock; port = c.port; id = c.id }

-- the members of a dataField
abbrev pub field_data : PlannedId → List ℕ → Data
field_data id octets = object (members_data octets (members_in (number_of id) octets))

unfoldable pub change_data : ℕ → Change → Data
change_data place c = object (with_members
    ((codes "number", number (unsigned place))
    ∷ (codes "before", field_data c.id c.before.items)
    ∷ (codes "after", field_data c.id c.after.items)
    ∷ []) (subject_data (subject_of c)))

-- an object for each change, in their order, numbered from this on
abbrev pub changes_data : ℕ → List Change → List Data
changes_data place [] = []
changes_data place (c ∷ cs) = change_data place c ∷ changes_data (place + 1) cs

pub record IsObject (changes : List Change) (d : Data) : Type 0 where
  pub named : get (codes "plan") d ≡ Some (string (encode_lower (digest_of changes)))
  pub told : get (codes "changes") d ≡ Some (array (items_of (changes_data 1 changes)))

-- a line that is such an object
pub record IsObjectLine (changes : List Change) (text : List ℕ) : Type 0 where
  pub line : List ℕ
  pub value : Data
  pub is : text ≡ line ++ 10 ∷ []
  pub says : IsInOrder line value
  pub has : IsObject changes value
