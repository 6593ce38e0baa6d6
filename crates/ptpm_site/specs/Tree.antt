-- The rows of the tree: each clock has exactly one, at depth 0 or below the row of what it follows.
use Rattle.std.specs.Prelude.{◌≡◌, ℕ, ◌+◌, ◌==◌, ◌<◌, ◌≤◌, ◌⊎◌, Bool, true, false, List, ◌∷◌, ◌++◌, length, take, Option, Some, None, if◌then◌else◌, slice_index_or, count_by}
use Rattle.std.specs.List.{All, filter_map}
use Rattle.ptpm_site.specs.declared.tree.TreeRow.{TreeRow}
use Rattle.ptpm_site.specs.declared.tree.TreeRow.TheVariants as row

-- the clock of a row, by its place; a row that names a port has none
abbrev pub place_of : TreeRow → Option ℕ
place_of (row.Clock place depth) = Some place
place_of (row.NotSeen domain parent) = None

abbrev pub places_of : List TreeRow → List ℕ
places_of rows = filter_map place_of rows

-- how many rows a clock has
abbrev pub rows_at : ℕ → List TreeRow → ℕ
rows_at p rows = count_by (λ q. q == p) (places_of rows)

-- each of this many clocks has one row
abbrev pub StandsOnce : ℕ → List TreeRow → Type 0
StandsOnce count rows = (p : ℕ) → p < count → rows_at p rows ≡ 1

-- ---- below which row a clock is

-- a row that names a port is a root
abbrev pub depth_of : TreeRow → ℕ
depth_of (row.Clock place depth) = depth
depth_of (row.NotSeen domain parent) = 0

-- what is above a row of this depth that comes after these: the nearest that is less deep, and it is one less deep
pub record IsAbove (rows : List TreeRow) (depth : ℕ) (above : TreeRow) : Type 0 where
  pub earlier : List TreeRow
  pub later : List TreeRow
  pub split : rows ≡ earlier ++ above ∷ later
  pub step : depth_of above + 1 ≡ depth
  pub nearest : All (λ r. depth ≤ depth_of r) later

-- a row after these is a root, or below the row of what its clock follows
abbrev pub StandsBelow : (ℕ → TreeRow → Type 0) → List TreeRow → TreeRow → Type 0
StandsBelow follows rows (row.Clock place depth) = (depth ≡ 0) ⊎ ((above : TreeRow) × IsAbove rows depth above × follows place above)
StandsBelow follows rows (row.NotSeen domain parent) = Unit {0}

-- each row after those before it
abbrev pub AreBelow : (ℕ → TreeRow → Type 0) → List TreeRow → Type 0
AreBelow follows rows = (k : ℕ) (d : TreeRow) → k < length rows → StandsBelow follows (take k rows) (slice_index_or rows k d)

-- ---- while the tree grows

-- each clock that is marked has one row, and no other has any
abbrev pub IsGrown : List Bool → List TreeRow → Type 0
IsGrown marks rows = (p : ℕ) → rows_at p rows ≡ (if slice_index_or marks p false then 1 else 0)

-- each clock that was marked stays marked
abbrev pub StaysMarked : List Bool → List Bool → Type 0
StaysMarked old new = (p : ℕ) → slice_index_or old p false ≡ true → slice_index_or new p false ≡ true
