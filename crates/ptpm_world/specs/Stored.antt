-- Frames in a store: each has its end, what it belongs to, and the place of its octets.
use Rattle.std.specs.Prelude.{ℕ, ◌+◌, ◌≤◌, Bool, not, List, length}
use Rattle.std.specs.List.{filter}
use Rattle.ptpm_network.specs.Network.{same_end}
use Rattle.ptpm_script.specs.declared.network.End.{End}
use Rattle.ptpm_world.specs.declared.frames.Stored.{Stored}
use Rattle.ptpm_world.specs.Described.{described_end}

-- the octets of a stored frame are in the store
abbrev pub IsWithin : List ℕ → Stored → Type 0
IsWithin store s = s.start + s.size ≤ length store

-- it is a message of at most 1,472 octets
abbrev pub IsShort : Stored → Type 0
IsShort s = s.size ≤ 1472

abbrev pub is_same : End → End → Bool
is_same a b = same_end (described_end a) (described_end b)

-- the ends but this one
abbrev pub others : End → List End → List End
others end ends = filter (λ e. not (is_same end e)) ends

-- the same frame at another end
abbrev pub at_end : Stored → End → Stored
at_end s end = record s { end = end }
