-- The names of management ids as a person writes and reads them, and the id that a person types (IEEE 1588-2019, 15.5.2.3; this
-- project's profile).
use Rattle.std.specs.Prelude.{ℕ, if◌then◌else◌, List, drop, map, Option, option_map, slice_get}
use Rattle.std.specs.Char.{to_ascii_uppercase}
use Rattle.std.specs.Option.{option_or}
use Rattle.std.specs.Result.{result_ok}
use Rattle.hex.specs.Hex.{decode_sized}
use Rattle.ptpm_codec.specs.Layout.{number_at}
use Rattle.ptpm_data.specs.ManagementId.{id_table, row_named, row_of}
use Rattle.ptpm_members.specs.OtherIds.{other_ids, other_name, other_named, other_number, other_of}
use Rattle.ptpm_members.specs.Typed.{is_hexadecimal}

-- a name in capitals (ASCII); any other octet stays
abbrev pub capitals : List ℕ → List ℕ
capitals name = map to_ascii_uppercase name

-- the standard's name of a managementId, in capitals, if this profile has the id
abbrev pub id_name : ℕ → Option (List ℕ)
id_name id = option_map (λ e. e.name) (row_of id)

-- the id at a place of the table of ids
abbrev pub id_at : ℕ → Option ℕ
id_at place = option_map (λ e. e.id) (slice_get id_table place)

-- ids that only other clocks have, and whose members are read: a name, the id of a name, and the id at a place
abbrev pub other_id_name : ℕ → Option (List ℕ)
other_id_name id = option_map other_name (other_of id)

abbrev pub other_id_named : List ℕ → Option ℕ
other_id_named name = option_map other_number (other_named name)

abbrev pub other_id_at : ℕ → Option ℕ
other_id_at place = option_map other_number (slice_get other_ids place)

-- ---- what a person types for an id

-- the id of a name, in either case
abbrev pub id_named : List ℕ → Option ℕ
id_named name = option_map (λ e. e.id) (row_named (capitals name))

-- the number that four hexadecimal digits write, in either case
abbrev pub four_digits : List ℕ → Option ℕ
four_digits digits = option_map (number_at 0) (result_ok (decode_sized digits 2))

-- a name of the table, or four hexadecimal digits, also after `0x`
unfoldable pub id_of : List ℕ → Option ℕ
id_of text = if is_hexadecimal text then four_digits (drop 2 text) else option_or (id_named text) (four_digits text)
