-- The texts of a network file: names, identities and ends of links (this project's profile).
use Rattle.std.specs.Prelude.{ℕ, ◌==◌, nat_le, Bool, false, ◌&&◌, ◌||◌, if◌then◌else◌, List, length, Option, Some, None, option_and_then}
use Rattle.std.specs.List.{list_all}
use Rattle.std.specs.Result.{result_ok}
use Rattle.hex.specs.Hex.{decode_sized}
use Rattle.ptpm_codec.specs.declared.identity.ClockIdentity.{ClockIdentity}
use Rattle.ptpm_codec.specs.declared.identity.PortIdentity.{PortIdentity}
use Rattle.ptpm_codec.specs.Identity.{every_clock, same_clock}
use Rattle.ptpm_text.specs.Numbers.{decimal_up_to}
use Rattle.ptpm_text.specs.Words.{cut_at}

-- a test that what is there passes
abbrev pub passes : {A : Type 0} → (A → Bool) → Option A → Bool
passes test None = false
passes test (Some a) = test a

-- ---- names

abbrev pub is_between : ℕ → ℕ → ℕ → Bool
is_between least most n = nat_le least n && nat_le n most

-- an ASCII letter, a digit or an underscore
abbrev pub is_name_octet : ℕ → Bool
is_name_octet octet = is_between 97 122 octet || is_between 65 90 octet || is_between 48 57 octet || (octet == 95)

unfoldable pub is_name : List ℕ → Bool
is_name text = is_between 1 32 (length text) && list_all is_name_octet text

-- ---- identities

-- a clockIdentity, if it is not all ones
abbrev pub if_one_clock : List ℕ → Option ClockIdentity
if_one_clock octets = if same_clock (record { 0 = octets }) every_clock then None else Some (record { 0 = octets })

-- sixteen hexadecimal digits, of either case
unfoldable pub clock_identity : List ℕ → Option ClockIdentity
clock_identity text = option_and_then if_one_clock (result_ok (decode_sized text 8))

abbrev pub port_of : Option ClockIdentity → Option ℕ → Option PortIdentity
port_of (Some clock) (Some port) = Some (record { clock = clock; port = port })
port_of _ _ = None

-- a clockIdentity, a slash and a decimal port
unfoldable pub port_identity : List ℕ → Option PortIdentity
port_identity text = option_and_then (λ parts. port_of (clock_identity parts.0) (decimal_up_to 65535 parts.1)) (cut_at 47 text)

-- ---- ends of links

abbrev pub if_named : List ℕ → Option ℕ → Option (List ℕ × Option ℕ)
if_named name port = if is_name name then Some (name, port) else None

abbrev pub end_at : Option (List ℕ × List ℕ) → List ℕ → Option (List ℕ × Option ℕ)
end_at None text = if_named text None
end_at (Some parts) text = option_and_then (λ port. if_named parts.0 (Some port)) (decimal_up_to 65535 parts.1)

-- only a session's name, or a clock's name, a dot and a decimal port
unfoldable pub end_of : List ℕ → Option (List ℕ × Option ℕ)
end_of text = end_at (cut_at 46 text) text
