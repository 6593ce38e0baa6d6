-- The ranges of members, which a start and a SET keep to: those of the table.
use Rattle.std.specs.Prelude.{ℕ, ℤ, pos, negsuc, neg_ℤ, Bool, false, true, ◌&&◌, ◌||◌, ◌==◌, nat_le, int_le, List, [], ◌∷◌, length, is_some}
use Rattle.std.specs.Str.{is_utf8}
use Rattle.ptpm_data.specs.declared.management_id.Layout.TheVariants as layouts
use Rattle.ptpm_data.specs.declared.port_setting.PortSetting.{PortSetting}
use Rattle.ptpm_data.specs.ManagementId.{set_of}
use Rattle.ptpm_data.specs.PortSetting.{row}
use Rattle.ptpm_data.specs.PortState.{mechanism_of}
use Rattle.ptpm_data.specs.SetForm.{SetField, TextUpTo, AnyOctet, from◌to◌, either◌to◌or◌, minus◌to◌, MechanismNumber}

abbrev pub is_within : ℕ → ℕ → ℕ → Bool
is_within low high n = nat_le low n && nat_le n high

-- ---- what a dataField may say: a text, an octet, an Integer8

abbrev pub allows_text : SetField → List ℕ → Bool
allows_text (TextUpTo limit) text = nat_le (length text) limit && is_utf8 text
allows_text _ text = false

abbrev pub allows_octet : SetField → ℕ → Bool
allows_octet AnyOctet n = true
allows_octet (from low to high) n = is_within low high n
allows_octet (either low to high or other) n = is_within low high n || (n == other)
allows_octet MechanismNumber n = is_some (mechanism_of n)
allows_octet _ n = false

abbrev pub allows_integer : SetField → ℤ → Bool
allows_integer (minus low to high) n = int_le (neg_ℤ (pos low)) n && int_le n (pos high)
allows_integer _ n = false

-- a value that is the one or the other
abbrev pub allows_value : SetField → ℤ → Bool
allows_value (minus low to high) n = allows_integer (minus low to high) n
allows_value set (pos n) = allows_octet set n
allows_value set (negsuc n) = false

-- ---- the ranges

-- no clock's identity
abbrev pub all_ones : List ℕ
all_ones = 255 ∷ 255 ∷ 255 ∷ 255 ∷ 255 ∷ 255 ∷ 255 ∷ 255 ∷ []

-- userDescription
unfoldable pub is_description : List ℕ → Bool
is_description text = allows_text (set_of layouts.UserDescription) text

abbrev pub is_clock_accuracy : ℕ → Bool
is_clock_accuracy n = allows_octet (set_of layouts.ClockAccuracy) n

-- a port's setting
abbrev pub is_in_range : PortSetting → ℤ → Bool
is_in_range s value = allows_value (row s).range value
