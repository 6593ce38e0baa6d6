-- What the program's five octets say of a port's settings, and that they are no more than that.
use Rattle.std.specs.Prelude.{◌≡◌, refl, ℕ, ◌<◌, ℤ, List, [], ◌∷◌, length, slice_index}
use Rattle.std.proofs.Common.{arith}
use Rattle.std.proofs.lemmas.Int.{of_z-to_z}
use Rattle.std.specs.Int.{w8}
use Rattle.ptpm_data.specs.declared.port_setting.PortSetting.{PortSetting}
use Rattle.ptpm_data.specs.declared.port_settings.PortSettings.TheInside.{Inside}
use Rattle.ptpm_data.specs.PortSetting.{octet_of, row, said_by, said_in, said_of, settings_octets}
use Rattle.ptpm_data.specs.SetForm.{SetField, minus◌to◌}

abbrev pub settings_view : Inside → PortSetting → ℤ
settings_view s = said_by s.octets

-- they are five, and octets
pub record AreFive (s : Inside) : Type 0 where
  pub count : length s.octets ≡ 5
  pub small : (place : ℕ) → slice_index s.octets place < 256

abbrev pub settings_inside : (PortSetting → ℤ) → Inside
settings_inside values = record { octets = settings_octets values }

-- ---- an octet is the octet of what it says

said_back : (range : SetField) (n : ℕ) → n < 256 → octet_of (said_in range n) ≡ n
unfolding octet_of
said_back (minus low to high) n small = of_z-to_z w8 n small
said_back _ n small = refl

pub octet_back : (s : PortSetting) (n : ℕ) → n < 256 → octet_of (said_of s n) ≡ n
unfolding said_of
octet_back s n small = said_back (row s).range n small

pub octets_back : (octets : List ℕ)
    → length octets ≡ 5
    → ((place : ℕ) → slice_index octets place < 256)
    → settings_octets (said_by octets) ≡ octets
octets_back (a ∷ b ∷ c ∷ d ∷ e ∷ []) count small =
    rw (octet_back _ a (small 0), octet_back _ b (small 1), octet_back _ c (small 2), octet_back _ d (small 3), octet_back _ e (small 4)) refl
octets_back _ count small = absurd (omega arith)

pub inside_back : (s : Inside) → AreFive s → settings_inside (settings_view s) ≡ s
inside_back s is = let octets = octets_back s.octets is.count is.small in λ i. record { octets = octets i }
