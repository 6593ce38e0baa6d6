-- The lines of standard input, as its octets give them, if these are known, and what a line has (this project's profile).
use Rattle.std.specs.Prelude.{◌≡◌, ◌⊎◌, ℕ, true, List, [], ◌∷◌, map, Option, Result, Ok, Err, if◌then◌else◌, option_map}
use Rattle.std.specs.Str.{is_utf8}
use Rattle.hex.specs.declared.error.FromHexError.{FromHexError}
use Rattle.ptpm_text.specs.Lines.{LeavesLong, reader_left, reader_line}
use Rattle.ptpm_commands.specs.declared.columns.Row.{Row}
use Rattle.ptpm_commands.specs.declared.faults.Fault.{Fault}
use Rattle.ptpm_commands.specs.declared.faults.Fault.TheVariants as faults
use Rattle.ptpm_commands.specs.declared.faults.LineFault.TheVariants as bad
use Rattle.ptpm_commands.specs.declared.lines.Lines.{Lines}
use Rattle.ptpm_commands.specs.Columns.{cells}
use Rattle.ptpm_commands.specs.DatagramLine.{datagram_of}
use Rattle.ptpm_commands.specs.Faults.{is_outside}

-- ---- what a reader has

-- the line that was read last, without its end
abbrev pub latest_line : {R : Type 0} → Lines R → List ℕ
latest_line l = reader_line l.reader

-- what a reader has left, if its octets are known
abbrev pub left_in : {R : Type 0} → (R → Option (List ℕ)) → Lines R → Option (List ℕ)
left_in remaining l = reader_left remaining l.reader

-- reading failed, or memory; or the next line, which has this number, is too long
abbrev pub FailsNext : ℕ → Option (List ℕ) → Option (List ℕ) → Fault → Type 0
FailsNext number before after fault = (is_outside fault ≡ true) ⊎ ((fault ≡ faults.LineTooLong number) × LeavesLong before after)

-- ---- what a line has, by its number and its octets without its end

-- all cells but the last, and the last
abbrev pub last_apart : List ℕ → List (List ℕ) → List (List ℕ) × List ℕ
last_apart cell [] = ([], cell)
last_apart cell (next ∷ more) = (cell ∷ (last_apart next more).0, (last_apart next more).1)

abbrev pub cells_apart : List (List ℕ) → List (List ℕ) × List ℕ
cells_apart [] = ([], [])
cells_apart (cell ∷ more) = last_apart cell more

-- the fault of digits that are none is the line's
abbrev pub numbered : {A : Type 0} → ℕ → Result A FromHexError → Result A Fault
numbered number (Ok a) = Ok a
numbered number (Err error) = Err (faults.BadLine number bad.BadHex)

-- only text has digits
abbrev pub of_text : {A : Type 0} → ℕ → List ℕ → Result A Fault → Result A Fault
of_text number line r = if is_utf8 line then r else Err (faults.BadLine number bad.BadHex)

-- its datagram, none if it is `nothing`
abbrev pub datagram_in : ℕ → List ℕ → Result (Option (List ℕ)) Fault
datagram_in number line = of_text number line (numbered number (datagram_of line))

abbrev pub beside : {A B : Type 0} → A → Result B Fault → Result (A × B) Fault
beside a (Ok b) = Ok (a, b)
beside a (Err fault) = Err fault

-- its columns, and the datagram after them
abbrev pub row_of_cells : ℕ → List (List ℕ) × List ℕ → Result (List (List ℕ) × Option (List ℕ)) Fault
row_of_cells number parts = beside parts.0 (numbered number (datagram_of parts.1))

abbrev pub row_in : ℕ → List ℕ → Result (List (List ℕ) × Option (List ℕ)) Fault
row_in number line = of_text number line (row_of_cells number (cells_apart (cells line)))

-- what the program has of it
abbrev pub row_value : Row → List (List ℕ) × Option (List ℕ)
row_value row = (map (λ c. c.now) row.columns.items, option_map (λ v. v.items) row.datagram)
