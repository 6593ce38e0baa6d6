-- The lines of `ptpm show`: the fields of a message, a line each or as an object of JSON (this project's profile).
use Rattle.std.specs.Prelude.{◌≡◌, ℕ, ◌==◌, ◌/◌, ◌%◌, false, List, [], ◌∷◌, ◌++◌, Option, Some, None, Result, Ok, Err, codes, decimal, find, flat_map}
use Rattle.std.specs.Fmt.{digit_glyph}
use Rattle.std.specs.Io.KnownBytes.{Appends}
use Rattle.hex.specs.declared.error.FromHexError.{FromHexError}
use Rattle.hex.specs.Hex.{decode_of}
use Rattle.ptpm_codec.specs.declared.error.DecodeError.{DecodeError}
use Rattle.ptpm_codec.specs.declared.error.ErrorId.{ErrorId}
use Rattle.ptpm_codec.specs.declared.message.Message.{Message}
use Rattle.ptpm_codec.specs.Identity.{port_identity_text}
use Rattle.ptpm_codec.specs.Message.{action_name, action_of, error_name, error_number, error_of, id_of, octets_of, text_of}
use Rattle.ptpm_codec.specs.Reading.{reading}
use Rattle.ptpm_members.specs.FieldText.{field_text}
use Rattle.ptpm_members.specs.IdNames.{id_name}
use Rattle.ptpm_members.specs.OtherIds.{name_of_id}
use Rattle.ptpm_message_json.specs.MessageJson.{message_text, named_errors}
use Rattle.ptpm_text.specs.OctetText.{text_of_octets}
use Rattle.ptpm_commands.specs.declared.faults.Fault.{Fault}
use Rattle.ptpm_commands.specs.declared.faults.Fault.TheVariants as faults
use Rattle.ptpm_commands.specs.declared.show.Values.{Values}
use Rattle.ptpm_commands.specs.declared.show.Values.TheVariants as values
use Rattle.ptpm_commands.specs.Ids.{id_text}

-- ---- the header

-- sdoId, of 12 bits, in three hexadecimal digits
abbrev pub sdo_line : ℕ → List ℕ
sdo_line sdo = codes "sdo " ++ digit_glyph false (sdo / 256) ∷ [] ++ text_of_octets (sdo % 256 ∷ []) ++ 10 ∷ []

abbrev pub line : List ℕ → List ℕ → List ℕ
line name value = name ++ value ++ 10 ∷ []

abbrev pub hops_line : ℕ → ℕ → List ℕ
hops_line hops starting = codes "hops " ++ decimal hops ++ codes " of " ++ decimal starting ++ 10 ∷ []

unfoldable pub identity_lines : Message → List ℕ
identity_lines m =
    line (codes "source ") (port_identity_text m.source)
    ++ line (codes "target ") (port_identity_text m.target)
    ++ line (codes "number ") (decimal m.number)

unfoldable pub action_lines : Message → List ℕ
action_lines m =
    hops_line m.hops m.starting_hops ++ line (codes "action ") (action_name (action_of m.body))

unfoldable pub header_lines : Message → List ℕ
header_lines m =
    sdo_line m.sdo ++ line (codes "domain ") (decimal m.domain) ++ identity_lines m ++ action_lines m

-- ---- the TLV

-- what stands for a name that there is not
abbrev pub dash : List ℕ
dash = codes "-"

abbrev pub name_or_dash : Option (List ℕ) → List ℕ
name_or_dash None = dash
name_or_dash (Some name) = name

abbrev pub name_of_error : Option ErrorId → List ℕ
name_of_error None = dash
name_of_error (Some error) = error_name error

abbrev pub error_named : ℕ → List ℕ
error_named number = name_of_error (find (λ e. error_number e == number) named_errors)

-- a number in four hexadecimal digits and a name
abbrev pub named_line : List ℕ → ℕ → List ℕ → List ℕ
named_line what number name = what ++ id_text number ++ codes " " ++ name ++ 10 ∷ []

-- the dataField of an id: all of its octets, or its members; an object has it within
unfoldable pub data_lines : Values → ℕ → List ℕ → List ℕ
data_lines values.Octets id octets = line (codes "value ") (text_of_octets octets)
data_lines values.Members id octets = field_text [] id octets
data_lines values.Json id octets = []

abbrev pub value_lines : Values → ℕ → Option ℕ → List ℕ → List ℕ → List ℕ
value_lines form id None octets text = data_lines form id octets
value_lines form id (Some error) octets text =
    named_line (codes "error ") error (error_named error) ++ line (codes "text ") (text_of_octets text)

-- the name of an id: beside its octets one of this profile's table, beside its members also one of others
abbrev pub shown_name : Values → ℕ → Option (List ℕ)
shown_name values.Octets id = id_name id
shown_name _ id = name_of_id id

unfoldable pub body_lines : Values → Message → List ℕ
body_lines form m =
    named_line (codes "id ") (id_of m.body) (name_or_dash (shown_name form (id_of m.body)))
    ++ value_lines form (id_of m.body) (error_of m.body) (octets_of m.body) (text_of m.body)

-- ---- the whole

-- what came before the octets of a message in its line, a line for each column
abbrev pub column_line : List ℕ → List ℕ
column_line column = line (codes "column ") column

unfoldable pub column_lines : List (List ℕ) → List ℕ
column_lines columns = flat_map column_line columns

abbrev pub field_lines : Values → List (List ℕ) → Message → List ℕ
field_lines form columns m = column_lines columns ++ header_lines m ++ body_lines form m

abbrev pub object_line : List (List ℕ) → Message → List ℕ
object_line columns m = message_text columns m ++ 10 ∷ []

-- a message, and the columns that came with it
abbrev pub message_lines : Values → List (List ℕ) → Message → List ℕ
message_lines values.Octets columns m = field_lines values.Octets columns m
message_lines values.Members columns m = field_lines values.Members columns m
message_lines values.Json columns m = object_line columns m

-- the message of a datagram, or why it holds none
abbrev pub read_as : Result Message DecodeError → Result Message Fault
read_as (Ok m) = Ok m
read_as (Err cause) = Err (faults.Refused cause)

-- the message of a datagram in hexadecimal digits
abbrev pub message_by : Result (List ℕ) FromHexError → Result Message Fault
message_by (Ok datagram) = read_as (reading datagram)
message_by (Err error) = Err faults.BadHex

abbrev pub message_of : List ℕ → Result Message Fault
message_of digits = message_by (decode_of digits)

-- a writer took the lines of a message that was read, with these columns
abbrev pub IsShown : Values → List (List ℕ) → Result Message Fault → Option (List ℕ) → Option (List ℕ) → Type 0
IsShown form columns read before after = (m : Message) × ((read ≡ Ok m) × Appends before after (message_lines form columns m))

abbrev pub row_lines : Values → List (List ℕ) × Message → List ℕ
row_lines form row = message_lines form row.0 row.1

-- a writer took the lines of some messages, each with its columns
pub record AreShown (form : Values) (before after : Option (List ℕ)) : Type 0 where
  pub rows : List (List (List ℕ) × Message)
  pub printed : Appends before after (flat_map (row_lines form) rows)
