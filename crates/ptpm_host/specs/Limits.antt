-- The values that a clock's hardware has (this project's profile), and what they say of what a device is asked.
use Rattle.std.specs.Prelude.{ℕ, ℤ, pos, neg_ℤ, ◌-ℤ◌, ◌/◌, ◌%◌, ◌&&◌, ◌||◌, ◌==◌, Bool, not, int_le, if◌then◌else◌, List, slice_index}
use Rattle.std.specs.Int.{bit_at}
use Rattle.std.specs.List.{list_any, list_all}
use Rattle.ptpm_host.specs.declared.device.Question.{Question}
use Rattle.ptpm_host.specs.declared.limits.Limit.{Limit}

-- ---- the values

-- value n is bit n % 8 of octet n / 8
abbrev pub has_value : ℕ → List ℕ → Bool
has_value n values = bit_at (slice_index values (n / 8)) (n % 8) == 1

abbrev pub has_none : List ℕ → Bool
has_none values = list_all (λ octet. octet == 0) values

abbrev pub is_between : ℤ → ℤ → ℤ → Bool
is_between least most n = int_le least n && int_le n most

-- A range is within -128 to 255, or it has no octet. An octet is a number from 0 to 255, or that of an Integer8 from -128 on.
abbrev pub is_of_range : ℤ → ℤ → ℕ → Bool
is_of_range least most n =
    is_between (neg_ℤ (pos 128)) (pos 255) least
    && (is_between (neg_ℤ (pos 128)) (pos 255) most
    && (is_between least most (pos n) || is_between least most (pos n -ℤ pos 256)))

-- ---- what they say

-- a limit of its id, and of a port that it names; 0xFFFF is every port
abbrev pub is_limit_of : Question → Limit → Bool
is_limit_of q l = l.id == q.id && (l.port == 65535 || (q.port == 65535 || l.port == q.port))

abbrev pub is_denied : Question → List Limit → Bool
is_denied q limits = list_any (λ l. is_limit_of q l && has_none l.values) limits

-- NULL_PTP_MANAGEMENT, USER_DESCRIPTION and UTC_PROPERTIES have no value in their first octet
abbrev pub has_first_value : ℕ → Bool
has_first_value id = not (id == 0x0000 || (id == 0x0002 || id == 0x2011))

abbrev pub is_beyond : Question → List Limit → Bool
is_beyond q limits = list_any (λ l. is_limit_of q l && not (has_value (slice_index q.octets 0) l.values)) limits

-- of a SET NOT_SETABLE or WRONG_VALUE, of a COMMAND NOT_SUPPORTED, or 0 (15.5.4.3)
abbrev pub limits_say : Question → List Limit → ℕ
limits_say q limits =
    if q.action == 3 then (if is_denied q limits then 6 else 0)
    else if q.action == 1 then
    (if is_denied q limits then 5 else if has_first_value q.id && is_beyond q limits then 4 else 0)
    else 0
