-- The newest image of octets that are places of one size.
use Rattle.std.specs.Prelude.{ℕ, ◌/◌, ◌==◌, nat_lt, Bool, true, Option, Some, None, if◌then◌else◌}
use Rattle.ptpm_seal.specs.declared.places.Newest.{Newest}
use Rattle.ptpm_seal.specs.Places.{Held, HoldNone, IsNewest}

-- how many whole places there are; none of no size
abbrev pub places_of : ℕ → ℕ → ℕ
places_of size length = if size == 0 then 0 else length / size

abbrev pub IsNewestOf : Held → ℕ → Option Newest → Type 0
IsNewestOf held places None = HoldNone held places
IsNewestOf held places (Some n) = IsNewest held places n.place n.sealed

abbrev pub is_newer : Option Newest → ℕ → Bool
is_newer None count = true
is_newer (Some n) count = nat_lt n.sealed.count count
