-- What a person types for a SET of an id, and the dataField that it means (this project's profile).
use Rattle.std.specs.Prelude.{ℕ, ◌+◌, ◌*◌, ◌==◌, if◌then◌else◌, bit_or, List, [], ◌∷◌, drop, length, replicate, slice_index, slice_index_or, slice_set, Option, Some, None, option_map, Result, Ok, Err}
use Rattle.std.specs.Str.{str_eq_ignore_ascii_case}
use Rattle.arrayvec.specs.ArrayVec.{ArrayVec}
use Rattle.ptpm_codec.specs.PtpText.{ptp_text_octets}
use Rattle.ptpm_data.specs.ManagementId.{RowValue, row_of}
use Rattle.ptpm_members.specs.declared.forms.Field.{Field}
use Rattle.ptpm_members.specs.declared.forms.Form.{Form}
use Rattle.ptpm_members.specs.declared.forms.Form.TheVariants as forms
use Rattle.ptpm_members.specs.declared.names.Member.{Member}
use Rattle.ptpm_members.specs.declared.parsing.ParseFault.{ParseFault}
use Rattle.ptpm_members.specs.declared.parsing.ParseFault.TheVariants as faults
use Rattle.ptpm_members.specs.Names.{member_name}
use Rattle.ptpm_members.specs.Tables.{field_size, fields_of}
use Rattle.ptpm_members.specs.Typed.{described, typed}

-- ---- one member

-- octets laid over those from a place on: a bit is set if it is in either
unfoldable pub overlay : ℕ → List ℕ → List ℕ → List ℕ
overlay at [] field = field
overlay at (v ∷ vs) field = overlay (at + 1) vs (slice_set field at (bit_or (slice_index field at) v))

-- a dataField with the value that is typed for a member; a text is all of its dataField
unfoldable pub laid : Form → ℕ → List ℕ → List ℕ → Option (List ℕ)
laid forms.Text at text field = option_map ptp_text_octets (described text)
laid form at text field = option_map (λ octets. overlay at octets field) (typed form text)

abbrev pub or_no_value : Member → Option (List ℕ) → Result (List ℕ) ParseFault
or_no_value member None = Err (faults.NoValue member)
or_no_value member (Some field) = Ok field

unfoldable pub with_value : Field → List ℕ → List ℕ → Result (List ℕ) ParseFault
with_value f text field = or_no_value f.0 (laid f.2 f.1 text field)

-- after the member's name
unfoldable pub with_named : Field → List ℕ → List ℕ → List ℕ → Result (List ℕ) ParseFault
with_named f name text field =
    if str_eq_ignore_ascii_case name (member_name f.0) then with_value f text field else Err (faults.OtherName f.0)

-- a dataField as its octets
abbrev pub octets_or : Result (ArrayVec ℕ) ParseFault → Result (List ℕ) ParseFault
octets_or (Ok field) = Ok field.items
octets_or (Err fault) = Err fault

-- what a dataField that was typed into is, unless there is a fault
abbrev pub field_or : Result (Unit {0}) ParseFault → List ℕ → Result (List ℕ) ParseFault
field_or (Ok done) field = Ok field
field_or (Err fault) field = Err fault

abbrev pub said_or : Option (Unit {0}) → List ℕ → Option (List ℕ)
said_or (Some done) field = Some field
said_or None field = None

-- ---- all of them

abbrev pub then_with : Result (List ℕ) ParseFault → (List ℕ → Result (List ℕ) ParseFault) → Result (List ℕ) ParseFault
then_with (Err fault) more = Err fault
then_with (Ok field) more = more field

abbrev pub word : ℕ → List (List ℕ) → List ℕ
word i words = slice_index_or words i []

-- each member's name and value, in the order of a text
unfoldable pub each_named : List Field → List (List ℕ) → List ℕ → Result (List ℕ) ParseFault
each_named [] words field = Ok field
each_named (f ∷ fs) words field = then_with (with_named f (word 0 words) (word 1 words) field) (each_named fs (drop 2 words))

unfoldable pub with_all : List Field → List (List ℕ) → List ℕ → Result (List ℕ) ParseFault
with_all fs words field = if length words == 2 * length fs then each_named fs words field else Err faults.WordCount

-- a sole member's name may be left out
unfoldable pub with_words : List Field → List (List ℕ) → List ℕ → Result (List ℕ) ParseFault
with_words (f ∷ []) words field = if length words == 1 then with_value f (word 0 words) field else with_all (f ∷ []) words field
with_words fs words field = with_all fs words field

abbrev pub parsed_row : Option RowValue → List (List ℕ) → Result (List ℕ) ParseFault
parsed_row None words = Err faults.NoSuchId
parsed_row (Some row) words = with_words (fields_of row.layout) words (replicate (field_size row.layout) 0)

unfoldable pub parsed : ℕ → List (List ℕ) → Result (List ℕ) ParseFault
parsed id words = parsed_row (row_of id) words
