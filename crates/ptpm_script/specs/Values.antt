-- The values at the keys of a table (this project's profile). If a key is absent, or holds another kind, there is none.
use Rattle.std.specs.Prelude.{ℕ, ◌-◌, ℤ, pos, negsuc, nat_le, int_le, Bool, ◌&&◌, if◌then◌else◌, List, [], take, Option, Some, None, option_and_then, unwrap_or}
use Rattle.ptpm_codec.specs.declared.identity.ClockIdentity.{ClockIdentity}
use Rattle.ptpm_codec.specs.declared.identity.PortIdentity.{PortIdentity}
use Rattle.toml.specs.Data.{Members, as_str, as_bool, as_integer, get_member}
use Rattle.ptpm_script.specs.Spellings.{clock_identity, port_identity}

abbrev pub text_at : List ℕ → Members → Option (List ℕ)
text_at key ms = option_and_then as_str (get_member key ms)

abbrev pub flag_at : List ℕ → Members → Option Bool
flag_at key ms = option_and_then as_bool (get_member key ms)

abbrev pub integer_at : List ℕ → Members → Option ℤ
integer_at key ms = option_and_then as_integer (get_member key ms)

-- a whole number from 0 on, up to this
abbrev pub natural_up_to : ℕ → ℤ → Option ℕ
natural_up_to most (pos n) = if nat_le n most then Some n else None
natural_up_to most (negsuc n) = None

unfoldable pub natural_at : ℕ → List ℕ → Members → Option ℕ
natural_at most key ms = option_and_then (natural_up_to most) (integer_at key ms)

-- a number whose two's complement has room for this many negative ones
abbrev pub signed_up_to : ℕ → ℤ → Option ℤ
signed_up_to half n = if int_le (negsuc (half - 1)) n && int_le n (pos (half - 1)) then Some n else None

unfoldable pub signed_at : ℕ → List ℕ → Members → Option ℤ
signed_at half key ms = option_and_then (signed_up_to half) (integer_at key ms)

abbrev pub clock_at : List ℕ → Members → Option ClockIdentity
clock_at key ms = option_and_then clock_identity (text_at key ms)

abbrev pub port_at : List ℕ → Members → Option PortIdentity
port_at key ms = option_and_then port_identity (text_at key ms)

-- a text's first 129 octets, one more than a userDescription may have
unfoldable pub description_at : List ℕ → Members → List ℕ
description_at key ms = take 129 (unwrap_or (text_at key ms) [])
