-- The entries of a table in the order of their managers, as a `SlotTable` lends them: by the places of its slots.
use Rattle.std.specs.Prelude.{ℕ, List, [], ◌∷◌, ◌++◌, Option, Some, None, All, slice_get, suc, if◌then◌else◌}
use Rattle.std.specs.Ordering.{is_lt}
use Rattle.ptpm_codec.specs.declared.identity.PortIdentity.{PortIdentity}
use Rattle.ptpm_codec.specs.Identity.{identity_cmp}
use Rattle.ptpm_table.specs.declared.slot.Slot.{Slot}
use Rattle.ptpm_table.specs.Entries.{Entry}
use Rattle.ptpm_table.specs.Lending.{IsKeepable}

-- the entry of a slot, if there is one
abbrev pub entry_at : Option Slot → List (PortIdentity × Entry)
entry_at None = []
entry_at (Some s) = (s.kept.manager, s.kept.entry) ∷ []

-- the entries of the slots at these places
abbrev pub entries_at : List Slot → List ℕ → List (PortIdentity × Entry)
entries_at slots [] = []
entries_at slots (p ∷ ps) = entry_at (slice_get slots p) ++ entries_at slots ps

-- there is a slot, and its entry can be kept
abbrev pub IsLendable : Option Slot → Type 0
IsLendable None = ⊥
IsLendable (Some s) = IsKeepable s.kept.entry

abbrev pub AreLendable : List Slot → List ℕ → Type 0
AreLendable slots places = All (λ p. IsLendable (slice_get slots p)) places

-- the place at which a manager's entry belongs among these: before the first of a manager that comes after it
abbrev pub rank : PortIdentity → List (PortIdentity × Entry) → ℕ
rank who [] = 0
rank who (e ∷ es) = if is_lt (identity_cmp who e.0) then 0 else suc (rank who es)
