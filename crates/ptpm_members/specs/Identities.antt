-- What an identity that a person types names: `aabbccfffeddee01`, or `aabbcc.fffe.ddee01` as pmc prints it, and with a port
-- `aabbccfffeddee01/1` or `aabbcc.fffe.ddee01-1` (this project's profile).
use Rattle.std.specs.Prelude.{ℕ, ◌==◌, Bool, ◌&&◌, if◌then◌else◌, List, ◌++◌, length, drop, take, Option, Some, None, option_map}
use Rattle.std.specs.Option.{option_or}
use Rattle.std.specs.Result.{result_ok}
use Rattle.std.specs.List.{before_first, after_first}
use Rattle.hex.specs.Hex.{decode_sized}
use Rattle.ptpm_codec.specs.declared.identity.ClockIdentity.{ClockIdentity}
use Rattle.ptpm_codec.specs.declared.identity.PortIdentity.{PortIdentity}
use Rattle.ptpm_codec.specs.Layout.{octet}
use Rattle.ptpm_members.specs.Typed.{number_up_to}

-- ---- a clock

-- sixteen hexadecimal digits, in either case
abbrev pub clock_of_digits : List ℕ → Option ClockIdentity
clock_of_digits digits = option_map (λ octets. record { 0 = octets }) (result_ok (decode_sized digits 8))

-- a dot after the sixth digit and the tenth
abbrev pub is_dotted : List ℕ → Bool
is_dotted text = length text == 18 && (octet 6 text == 0x2e && octet 11 text == 0x2e)

abbrev pub without_dots : List ℕ → List ℕ
without_dots text = take 6 text ++ take 4 (drop 7 text) ++ drop 12 text

unfoldable pub clock_identity_of : List ℕ → Option ClockIdentity
clock_identity_of text = if is_dotted text then clock_of_digits (without_dots text) else clock_of_digits text

-- ---- a port

abbrev pub port_of : Option ClockIdentity → Option ℕ → Option PortIdentity
port_of None port = None
port_of (Some clock) None = None
port_of (Some clock) (Some port) = Some (record { clock = clock; port = port })

abbrev pub is_mark : ℕ → ℕ → Bool
is_mark mark c = c == mark

-- a clock, this mark and a port number
unfoldable pub port_identity_around : ℕ → List ℕ → Option PortIdentity
port_identity_around mark text =
    port_of (clock_identity_of (before_first (is_mark mark) text)) (number_up_to 65535 (after_first (is_mark mark) text))

-- with a slash, or with a hyphen
unfoldable pub port_identity_of : List ℕ → Option PortIdentity
port_identity_of text = option_or (port_identity_around 0x2f text) (port_identity_around 0x2d text)
