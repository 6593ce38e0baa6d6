-- Loops of clocks that follow each other, by the place that each follows.
use Rattle.std.specs.Prelude.{◌≡◌, ℕ, zero, suc, ◌==◌, ◌<◌, Bool, true, false, nat_lt, List, length, Option, Some, None, if◌then◌else◌, slice_index_or}
use Rattle.std.specs.Option.{option_map_or}

abbrev pub AreWithin : List (Option ℕ) → Type 0
AreWithin followed = (p q : ℕ) → slice_index_or followed p None ≡ Some q → q < length followed

-- whether a walk comes back to its first place, and passes none that is less
abbrev pub comes_back : List (Option ℕ) → ℕ → ℕ → ℕ → Bool
comes_back followed first zero here = false
comes_back followed first (suc n) here = option_map_or (λ q.
    if nat_lt q first then false else if q == first then true else comes_back followed first n q) (slice_index_or followed here None) false

-- whether a place is the least of a loop
abbrev pub is_least : List (Option ℕ) → ℕ → Bool
is_least followed p = comes_back followed p (length followed) p
