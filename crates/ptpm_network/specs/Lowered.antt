-- A message whose hops a host lowers before its clock takes its turn, as `ptpm-clock --hops` does.
use Rattle.std.specs.Prelude.{◌≡◌, ℕ, ◌-◌, ◌≤◌, List, [], ◌∷◌, Some}
use Rattle.ptpm_codec.specs.declared.message.Message.{Message}
use Rattle.ptpm_codec.specs.Reading.{message_of}

-- it has this many boundaryHops, and startingBoundaryHops are lowered by as much
abbrev pub with_fewer_hops : ℕ → Message → Message
with_fewer_hops most v = record v { starting_hops = v.starting_hops - (v.hops - most); hops = most }

-- these octets are a message, and those are the same with this many boundaryHops, which are no more
pub record IsLowered (most : ℕ) (datagram lowered : List ℕ) : Type 0 where
  pub message : Message
  pub read : message_of datagram ≡ Some message
  pub fewer : most ≤ message.hops
  pub is : message_of lowered ≡ Some (with_fewer_hops most message)

-- Messages leave one after another, each at the same port as its lowered one. The lowered ones have this many boundaryHops, which are
-- no more.
abbrev pub AreLowered : ℕ → List (ℕ × List ℕ) → List (ℕ × List ℕ) → Type 0
AreLowered most [] [] = Unit {0}
AreLowered most (m ∷ ms) (l ∷ ls) = (l.0 ≡ m.0) × IsLowered most m.1 l.1 × AreLowered most ms ls
AreLowered most _ _ = ⊥
