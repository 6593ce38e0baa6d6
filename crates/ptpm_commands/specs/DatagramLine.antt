-- A datagram in a line of standard input (this project's profile). It is in hexadecimal digits, by itself or after a port number
-- and a space. `ptpm answer` prints a message in the second form. Words NAME=VALUE may come first, with a space after each.
use Rattle.std.specs.Prelude.{ℕ, ◌==◌, ◌||◌, Bool, if◌then◌else◌, List, [], ◌∷◌, bytes_eq, codes, is_some, Option, Some, None, Result, Ok, Err}
use Rattle.std.specs.List.{list_any, slice_split}
use Rattle.std.specs.Option.{option_map_or}
use Rattle.hex.specs.declared.error.FromHexError.{FromHexError}
use Rattle.hex.specs.Hex.{decode_of}
use Rattle.ptpm_codec.specs.Layout.{octet}
use Rattle.ptpm_text.specs.Numbers.{decimal_up_to}
use Rattle.ptpm_text.specs.Words.{cut_at, space}

abbrev pub behind : Option (List ℕ × List ℕ) → List ℕ → List ℕ
behind None line = line
behind (Some parts) line = if is_some (decimal_up_to 65535 parts.0) then parts.1 else line

-- what follows a port number and a space; the whole line if it does not begin with these
unfoldable pub after_port : List ℕ → List ℕ
after_port line = behind (cut_at space line) line

-- a word has an equals sign
abbrev pub is_word : List ℕ → Bool
is_word text = list_any (λ octet. octet == 0x3d) text

-- the texts between the spaces of a line
abbrev pub texts : List ℕ → List (List ℕ)
texts line = slice_split (λ octet. octet == 0x20) line

-- the last of these, if each before it is a word
abbrev pub behind_all : List (List ℕ) → Option (List ℕ)
behind_all [] = None
behind_all (text ∷ []) = Some text
behind_all (text ∷ next ∷ more) = if is_word text then behind_all (next ∷ more) else None

-- what follows the words with which a line begins
unfoldable pub after_words : List ℕ → List ℕ
after_words line = option_map_or (λ text. text) (behind_all (texts line)) line

-- a line that begins with `#` is a note
abbrev pub is_note : List ℕ → Bool
is_note line = octet 0 line == 0x23

-- the datagram's digits; none in a note, and if the line is `nothing`, which is printed if no message is sent
unfoldable pub digits_of : List ℕ → Option (List ℕ)
digits_of line = if bytes_eq line (codes "nothing") || is_note line then None else Some (after_port (after_words line))

abbrev pub octets_of : Result (List ℕ) FromHexError → Result (Option (List ℕ)) FromHexError
octets_of (Ok octets) = Ok (Some octets)
octets_of (Err error) = Err error

abbrev pub datagram_by : Option (List ℕ) → Result (Option (List ℕ)) FromHexError
datagram_by None = Ok None
datagram_by (Some digits) = octets_of (decode_of digits)

-- the datagram, if there is one; or why its digits are none
abbrev pub datagram_of : List ℕ → Result (Option (List ℕ)) FromHexError
datagram_of line = datagram_by (digits_of line)
