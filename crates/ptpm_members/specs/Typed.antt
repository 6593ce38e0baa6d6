-- What a person types for a member's value, and the octets that it means (this project's profile). Names are those of the
-- standard, in either case.
use Rattle.std.specs.Prelude.{ℕ, ◌+◌, ◌-◌, ◌==◌, nat_le, nat_lt, Bool, true, false, ◌&&◌, ◌||◌, if◌then◌else◌, ℤ, pos, neg_ℤ, List, [], ◌∷◌, length, drop, take, Option, Some, None, option_and_then, option_map}
use Rattle.std.specs.Option.{option_or}
use Rattle.std.specs.Result.{result_ok}
use Rattle.std.specs.Str.{all_ascii_digits, str_eq_ignore_ascii_case}
use Rattle.std.specs.Str.Parse.{digits_value}
use Rattle.hex.specs.Hex.{decode_sized}
use Rattle.ptpm_codec.specs.Layout.{octet}
use Rattle.ptpm_data.specs.DataField.{i16_octets, i8_octet}
use Rattle.ptpm_data.specs.Ranges.{is_description}
use Rattle.ptpm_members.specs.declared.forms.Form.{Form}
use Rattle.ptpm_members.specs.declared.forms.Form.TheVariants as forms
use Rattle.ptpm_members.specs.declared.number_names.Enumeration.TheVariants as enumerations
use Rattle.ptpm_members.specs.NumberNames.{number_of}
use Rattle.ptpm_members.specs.ValueText.{flag_name}

-- ---- numbers

-- only decimal digits, at least one
abbrev pub is_decimal : List ℕ → Bool
is_decimal text = all_ascii_digits text && nat_le 1 (length text)

-- the number that decimal digits write, if it is at most this
unfoldable pub number_up_to : ℕ → List ℕ → Option ℕ
number_up_to most text = if is_decimal text && nat_le (digits_value 10 text) most then Some (digits_value 10 text) else None

-- `0x` comes first
abbrev pub is_hexadecimal : List ℕ → Bool
is_hexadecimal text = octet 0 text == 0x30 && (octet 1 text == 0x78 || octet 1 text == 0x58)

-- a number of one octet: in decimal, or `0x` and two hexadecimal digits
unfoldable pub octet_of : List ℕ → Option ℕ
octet_of text =
    if is_hexadecimal text then option_map (octet 0) (result_ok (decode_sized (drop 2 text) 1)) else number_up_to 255 text

-- a number of four bits, typed as one of an octet
abbrev pub if_nibble : ℕ → Option ℕ
if_nibble n = if nat_lt n 16 then Some n else None

abbrev pub nibble_of : List ℕ → Option ℕ
nibble_of text = option_and_then if_nibble (octet_of text)

-- what follows a minus, if one comes first
abbrev pub without_minus : List ℕ → Option (List ℕ)
without_minus text = if octet 0 text == 0x2d then Some (drop 1 text) else None

abbrev pub signed_by : ℕ → List ℕ → Option (List ℕ) → Option ℤ
signed_by most text None = option_map (λ n. pos n) (number_up_to most text)
signed_by most text (Some digits) = option_map (λ n. neg_ℤ (pos n)) (number_up_to (most + 1) digits)

-- a number from minus this, and one less, to this: in decimal, after a minus if it is negative
unfoldable pub signed_number : ℕ → List ℕ → Option ℤ
signed_number most text = signed_by most text (without_minus text)

-- ---- names

abbrev pub one_is : ℕ → Bool
one_is n = n == 1

-- `true` and `false`, or 1 and 0
unfoldable pub flag_of : List ℕ → Option Bool
flag_of text =
    if str_eq_ignore_ascii_case text (flag_name true) then Some true
    else if str_eq_ignore_ascii_case text (flag_name false) then Some false
    else option_map one_is (number_up_to 1 text)

-- the number of a delay mechanism: by its name, or a number of one octet
unfoldable pub mechanism_octet : List ℕ → Option ℕ
mechanism_octet text = option_or (number_of enumerations.DelayMechanism text) (octet_of text)

-- ---- a text

-- the octet that a backslash, an x and two hexadecimal digits stand for, if these come first
unfoldable pub escaped : List ℕ → Option ℕ
escaped text =
    if octet 0 text == 0x5c && octet 1 text == 0x78 then option_map (octet 0) (result_ok (decode_sized (take 2 (drop 2 text)) 1))
    else None

-- the octets that a typed text means, after this many octets that belong to an escape before it
abbrev pub meant_next : Option ℕ → ℕ → List ℕ → List ℕ → List ℕ
meant_next None c skipped plain = c ∷ plain
meant_next (Some octet) c skipped plain = octet ∷ skipped

unfoldable pub meant_after : ℕ → List ℕ → List ℕ
meant_after k [] = []
meant_after k (c ∷ cs) =
    if k == 0 then meant_next (escaped (c ∷ cs)) c (meant_after 3 cs) (meant_after 0 cs) else meant_after (k - 1) cs

abbrev pub meant : List ℕ → List ℕ
meant text = meant_after 0 text

-- the text, if a userDescription may be it
abbrev pub if_description : List ℕ → Option (List ℕ)
if_description text = if is_description text then Some text else None

unfoldable pub described : List ℕ → Option (List ℕ)
described text = if_description (meant text)

-- ---- a value

abbrev pub one_octet : ℕ → List ℕ
one_octet n = n ∷ []

-- a flag as this bit
abbrev pub flag_octet : ℕ → Bool → List ℕ
flag_octet mask flag = one_octet (if flag then mask else 0)

-- a signed number of one octet or two
abbrev pub signed_octets : ℕ → List ℕ → Option (List ℕ)
signed_octets n text =
    if n == 1 then option_map (λ z. one_octet (i8_octet z)) (signed_number 127 text)
    else if n == 2 then option_map i16_octets (signed_number 32767 text)
    else None

-- the octets of a value; none if the text is none, or no SET has a member of this form
unfoldable pub typed : Form → List ℕ → Option (List ℕ)
typed (forms.Unsigned n) text = if n == 1 then option_map one_octet (octet_of text) else None
typed (forms.Hexadecimal n) text = if n == 1 then option_map one_octet (octet_of text) else None
typed (forms.Signed n) text = signed_octets n text
typed (forms.Flag mask) text = option_map (flag_octet mask) (flag_of text)
typed forms.EitherFlag text = option_map (flag_octet 1) (flag_of text)
typed forms.LowNibble text = option_map one_octet (nibble_of text)
typed (forms.Named enumerations.DelayMechanism) text = option_map one_octet (mechanism_octet text)
typed _ text = None
