-- The configured managers of a clock, and what each may change (this project's profile).
use Rattle.std.specs.Prelude.{◌≡◌, ℕ, Bool, false, ◌||◌, List, [], ◌∷◌, length, map, min, Option, Some, None, nat_lt, if◌then◌else◌}
use Rattle.std.specs.List.{list_any}
use Rattle.std.specs.FinMap.{empty}
use Rattle.ptpm_codec.specs.declared.identity.ClockIdentity.{ClockIdentity}
use Rattle.ptpm_codec.specs.declared.identity.PortIdentity.{PortIdentity}
use Rattle.ptpm_codec.specs.Identity.{same_identity}
use Rattle.ptpm_data.specs.declared.rights.Rights.{Rights}
use Rattle.ptpm_data.specs.Rights.{no_rights}
use Rattle.ptpm_table.specs.declared.error.TableError.{TableError}
use Rattle.ptpm_table.specs.declared.error.TableError.TheVariants.{TooMany, Twice}
use Rattle.ptpm_table.specs.declared.managers.TheConstants.{MOST_MANAGERS}
use Rattle.ptpm_table.specs.Entries.{Entries}

-- a clock by what never changes of it: its identity, its configured managers, and what each of them may change
pub record Clock : Type 0 where
  pub identity : ClockIdentity
  pub managers : List PortIdentity
  pub rights : PortIdentity → Rights

abbrev pub identities : List (PortIdentity × Rights) → List PortIdentity
identities managers = map (λ m. m.0) managers

-- the rights of a configured manager; none of anyone else
abbrev pub rights_in : List (PortIdentity × Rights) → PortIdentity → Rights
rights_in [] who = no_rights
rights_in (m ∷ ms) who = if same_identity who m.0 then m.1 else rights_in ms who

abbrev pub clock_with : ClockIdentity → List (PortIdentity × Rights) → Clock
clock_with identity configured = record {
  identity = identity;
  managers = identities configured;
  rights = rights_in configured;
}

-- an identity is twice in the list
abbrev pub has_twice : List PortIdentity → Bool
has_twice [] = false
has_twice (p ∷ ps) = list_any (same_identity p) ps || has_twice ps

-- how many managers a table of this many slots in the value takes: one for each slot, and sixteen at most
abbrev pub most_managers : ℕ → ℕ
most_managers slots = min slots 16

-- why these are not the managers of a table that takes this many
abbrev pub refusal_above : ℕ → List PortIdentity → Option TableError
refusal_above most managers = if nat_lt most (length managers) then Some TooMany else if has_twice managers then Some Twice else None

-- why no table of this many slots is made for these managers
abbrev pub slots_refusal : ℕ → List PortIdentity → Option TableError
slots_refusal slots managers = refusal_above (most_managers slots) managers

-- why no table of a clock's managers is made, of whom there are at most sixteen
abbrev pub table_refusal : List PortIdentity → Option TableError
table_refusal managers = slots_refusal 16 managers

-- why no table with its slots in a block is made for these managers
abbrev pub block_refusal : List PortIdentity → Option TableError
block_refusal managers = refusal_above MOST_MANAGERS managers

-- a table is of the clock of this identity and these managers with their rights, and has nothing kept yet
pub record IsFresh (identity : ClockIdentity) (configured : List (PortIdentity × Rights))
    (owner : Clock) (entries : Entries) : Type 0 where
  pub owner_is : owner ≡ clock_with identity configured
  pub nothing_kept : entries ≡ empty
