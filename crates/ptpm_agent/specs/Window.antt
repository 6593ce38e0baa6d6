-- For which copies sequenceIds of 16 bits say what the indexes say (this project's profile).
use Rattle.std.specs.Prelude.{◌≡◌, ℕ, ◌<◌, List, [], ◌∷◌}
use Rattle.std.specs.List.{AllByRecursion}
use Rattle.ptpm_codec.specs.declared.identity.PortIdentity.{PortIdentity}
use Rattle.ptpm_codec.specs.SequenceNumber.{number_of}
use Rattle.ptpm_table.specs.Managers.{Clock}
use Rattle.ptpm_table.specs.Serial.{InWindow}
use Rattle.ptpm_agent.specs.Once.{History, RequestCopy, after_copy, greatest}

-- index and sequenceId of a copy go together
pub record IsNumbered (first : PortIdentity → ℕ) (x : RequestCopy) : Type 0 where
  pub positive : 0 < x.index
  pub number : x.heard.number ≡ number_of (first x.heard.source) x.index

-- each copy of a list
abbrev pub AreNumbered : (PortIdentity → ℕ) → List RequestCopy → Type 0
AreNumbered first xs = AllByRecursion (IsNumbered first) xs

-- the copy comes at most 32,768 requests late, and no more than 32,767 ahead of the latest accepted one
abbrev pub IsInWindow : History → RequestCopy → Type 0
IsInWindow h x =
    0 < greatest x.heard.source h.accepted → InWindow (greatest x.heard.source h.accepted) x.index

-- each copy of a list, as it comes
abbrev pub KeepsWindow : Clock → History → List RequestCopy → Type 0
KeepsWindow c h [] = Unit {0}
KeepsWindow c h (x ∷ xs) = IsInWindow h x × KeepsWindow c (after_copy c h x) xs

-- both hold of a copy: its sequenceId then says what its index says
pub record IsInTime (first : PortIdentity → ℕ) (h : History) (x : RequestCopy) : Type 0 where
  pub numbered : IsNumbered first x
  pub window : IsInWindow h x
