-- A line of standard input with columns (this project's profile): a tab is after each, and then comes the datagram.
use Rattle.std.specs.Prelude.{◌≡◌, ℕ, ◌==◌, Bool, List, [], ◌∷◌, ◌++◌, Option, Ok, IsErr}
use Rattle.std.specs.List.{slice_split}
use Rattle.ptpm_commands.specs.DatagramLine.{datagram_of}

abbrev pub is_tab : ℕ → Bool
is_tab octet = octet == 9

-- the texts between the tabs of a line
abbrev pub cells : List ℕ → List (List ℕ)
cells line = slice_split is_tab line

-- a line has these columns, and this text after them
abbrev pub HasCells : List ℕ → List (List ℕ) → List ℕ → Type 0
HasCells line columns last = columns ++ last ∷ [] ≡ cells line

-- a line has these columns, and this datagram after them, or `nothing`
abbrev pub IsRow : List ℕ → List (List ℕ) → Option (List ℕ) → Type 0
IsRow line columns datagram = (digits : List ℕ) × HasCells line columns digits × (datagram_of digits ≡ Ok datagram)

-- what a line has after its columns is no datagram
abbrev pub HasNoDatagram : List ℕ → Type 0
HasNoDatagram line = (columns : List (List ℕ)) × ((digits : List ℕ) × HasCells line columns digits × IsErr (datagram_of digits))
