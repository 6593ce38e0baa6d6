-- Numbers as scripts and network files write them (this project's profile).
use Rattle.std.specs.Prelude.{ℕ, ◌+◌, ◌*◌, nat_le, Bool, ◌&&◌, if◌then◌else◌, List, length, slice_index, Option, Some, None, option_map, option_and_then}
use Rattle.std.specs.Result.{result_ok}
use Rattle.std.specs.Str.{all_ascii_digits}
use Rattle.std.specs.Str.Parse.{digits_value}
use Rattle.hex.specs.Hex.{decode_sized}

-- only decimal digits, at least one and at most ten
abbrev pub is_decimal : List ℕ → Bool
is_decimal text = nat_le 1 (length text) && nat_le (length text) 10 && all_ascii_digits text

unfoldable pub decimal : List ℕ → Option ℕ
decimal text = if is_decimal text then Some (digits_value 10 text) else None

-- a number, if it is at most this limit
abbrev pub at_most : ℕ → ℕ → Option ℕ
at_most most n = if nat_le n most then Some n else None

abbrev pub decimal_up_to : ℕ → List ℕ → Option ℕ
decimal_up_to most text = option_and_then (at_most most) (decimal text)

-- the number of two octets
abbrev pub pair_number : List ℕ → ℕ
pair_number octets = slice_index octets 0 * 256 + slice_index octets 1

-- four hexadecimal digits, of either case
unfoldable pub four_digits : List ℕ → Option ℕ
four_digits text = option_map pair_number (result_ok (decode_sized text 2))
