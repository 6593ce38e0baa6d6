-- Findings that follow from nothing.
use Rattle.std.specs.Prelude.{◌≡◌, ℕ, ◌<◌, List, length, Option, None, slice_index_or}

-- the finding at a place follows from nothing, by what is said of each from which it follows
abbrev pub IsRoot : {A : Type 0} → List (Option A) → ℕ → Type 0
IsRoot {A} causes place = (place < length causes) × ((d : Option A) → slice_index_or causes place d ≡ None)
