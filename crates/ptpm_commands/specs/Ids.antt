-- The lines of `ptpm ids`: the table of management ids (this project's profile).
use Rattle.std.specs.Prelude.{ℕ, Bool, if◌then◌else◌, List, [], ◌∷◌, ◌++◌, Option, Some, None, codes, flat_map}
use Rattle.std.specs.Int.{to_be_bytes, w16}
use Rattle.ptpm_codec.specs.declared.message.Action.TheVariants as actions
use Rattle.ptpm_data.specs.declared.management_id.Scope.{Scope}
use Rattle.ptpm_data.specs.declared.management_id.Scope.TheVariants.{Clock, Port}
use Rattle.ptpm_data.specs.ManagementId.{RowValue, has_action, id_table, row_of}
use Rattle.ptpm_text.specs.OctetText.{text_of_octets}

abbrev pub scope_text : Scope → List ℕ
scope_text Clock = codes "clock"
scope_text Port = codes "port"

-- the letter of an action that is permitted, and a dash for another
abbrev pub letter : Bool → List ℕ → List ℕ
letter permitted text = if permitted then text else codes "-"

-- an id in four hexadecimal digits
abbrev pub id_text : ℕ → List ℕ
id_text id = text_of_octets (to_be_bytes w16 id)

-- the id, its name, whether it is of the clock or of each port, and the permitted actions
unfoldable pub row_line : RowValue → List ℕ
row_line row =
    id_text row.id ++ codes " " ++ row.name ++ codes " " ++ scope_text row.scope ++ codes " "
    ++ letter (has_action actions.Get row.actions) (codes "G")
    ++ letter (has_action actions.Set row.actions) (codes "S") ++ letter (has_action actions.Command row.actions) (codes "C") ++ 10 ∷ []

abbrev pub found_line : Option RowValue → List ℕ
found_line None = []
found_line (Some row) = row_line row

abbrev pub id_line : ℕ → List ℕ
id_line id = found_line (row_of id)

-- a line for each row of the table, in its order
abbrev pub table_lines : List ℕ
table_lines = flat_map row_line id_table
