-- A management message as one object of JSON, by the standard's names (this project's profile).
use Rattle.std.specs.Prelude.{ℕ, List, [], ◌∷◌, ◌++◌, Option, Some, None, codes, find, map, ◌==◌}
use Rattle.std.specs.Int.{to_be_bytes, w16}
use Rattle.hex.specs.Hex.{encode_lower}
use Rattle.serde_json.specs.Data.{Data, number, string, array, object, unsigned, Members, no_members, put}
use Rattle.serde_json.specs.View.{items_of}
use Rattle.serde_json.specs.Written.{compact_text}
use Rattle.ptpm_codec.specs.declared.error.ErrorId.{ErrorId}
use Rattle.ptpm_codec.specs.declared.error.ErrorId.TheVariants as errors
use Rattle.ptpm_codec.specs.declared.message.Body.{Body}
use Rattle.ptpm_codec.specs.declared.message.Message.{Message}
use Rattle.ptpm_codec.specs.Message.{action_name, action_of, error_name, error_number, error_of, id_of, octets_of, text_of}
use Rattle.ptpm_members.specs.OtherIds.{name_of_id}
use Rattle.ptpm_message_json.specs.DataField.{put_data_field}
use Rattle.ptpm_message_json.specs.Values.{port_data, text_data}

-- ---- names

-- four hexadecimal digits
unfoldable pub digits_of : ℕ → List ℕ
digits_of n = encode_lower (to_be_bytes w16 n)

abbrev pub name_or : Option (List ℕ) → List ℕ → List ℕ
name_or None digits = digits
name_or (Some name) digits = name

-- a managementId: its name, or four hexadecimal digits if it has none
abbrev pub id_data : ℕ → Data
id_data id = string (name_or (name_of_id id) (digits_of id))

-- the errors that the standard names (15.5.4.3)
abbrev pub named_errors : List ErrorId
named_errors =
    errors.ResponseTooBig ∷ errors.NoSuchId ∷ errors.WrongLength ∷ errors.WrongValue ∷ errors.NotSetable ∷ errors.NotSupported
    ∷ errors.GeneralError ∷ []

-- the one of a number, if there is one
unfoldable pub named_error : ℕ → Option ErrorId
named_error n = find (λ e. error_number e == n) named_errors

abbrev pub error_or : Option ErrorId → List ℕ → List ℕ
error_or None text = text
error_or (Some error) text = error_name error

-- a managementErrorId: its name, or a text such as `0x0009` if it has none
abbrev pub error_data : ℕ → Data
error_data n = string (error_or (named_error n) (codes "0x" ++ digits_of n))

-- ---- the object

-- an object with these members too
abbrev pub with_members : List (List ℕ × Data) → Members → Members
with_members [] ms = ms
with_members (m ∷ more) ms = with_members more (put m.0 m.1 ms)

abbrev pub head : Message → List (List ℕ × Data)
head m =
    (codes "sdoId", number (unsigned m.sdo))
    ∷ (codes "domainNumber", number (unsigned m.domain))
    ∷ (codes "sourcePortIdentity", port_data m.source)
    ∷ (codes "sequenceId", number (unsigned m.number))
    ∷ (codes "targetPortIdentity", port_data m.target)
    ∷ []

abbrev pub rest : Message → List (List ℕ × Data)
rest m =
    (codes "startingBoundaryHops", number (unsigned m.starting_hops))
    ∷ (codes "boundaryHops", number (unsigned m.hops))
    ∷ (codes "actionField", string (action_name (action_of m.body)))
    ∷ (codes "managementId", id_data (id_of m.body))
    ∷ []

abbrev pub refusal : ℕ → List ℕ → List (List ℕ × Data)
refusal error text = (codes "managementErrorId", error_data error) ∷ (codes "displayData", text_data text) ∷ []

unfoldable pub put_head : Message → Members → Members
put_head m = with_members (head m)

unfoldable pub put_rest : Message → Members → Members
put_rest m = with_members (rest m)

-- an error status has its error and its text, any other message its dataField
abbrev pub put_content : Option ℕ → Body → Members → Members
put_content None body ms = put_data_field (id_of body) (octets_of body) ms
put_content (Some error) body ms = with_members (refusal error (text_of body)) ms

unfoldable pub put_body : Body → Members → Members
put_body body ms = put_content (error_of body) body ms

-- texts that came with the message, unless there is none
unfoldable pub put_columns : List (List ℕ) → Members → Members
put_columns [] ms = ms
put_columns (column ∷ more) ms = put (codes "columns") (array (items_of (map string (column ∷ more)))) ms

unfoldable pub message_data : List (List ℕ) → Message → Data
message_data columns m = object (put_columns columns (put_body m.body (put_rest m (put_head m no_members))))

-- without a space or a line feed
unfoldable pub message_text : List (List ℕ) → Message → List ℕ
message_text columns m = compact_text (message_data columns m)
