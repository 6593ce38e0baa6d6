-- A fault at a line of standard input, and what is reported of a fault (this project's profile).
use Rattle.std.specs.Prelude.{◌≡◌, ◌⊎◌, ℕ, Bool, true, false, List, [], ◌∷◌, ◌++◌, Option, Some, None, codes, is_some}
use Rattle.hex.specs.declared.error.FromHexError.{FromHexError}
use Rattle.hex.specs.declared.error.FromHexError.TheVariants as digits
use Rattle.ptpm_commands.specs.declared.faults.Fault.{Fault}
use Rattle.ptpm_commands.specs.declared.faults.Fault.TheVariants as faults
use Rattle.ptpm_commands.specs.declared.faults.LineFault.TheVariants as bad

-- the number of the line is reported if the line is to blame
abbrev pub at_line : ℕ → Fault → Fault
at_line number faults.BadHex = faults.BadLine number bad.BadHex
at_line number (faults.Refused error) = faults.BadLine number (bad.Refused error)
at_line number fault = fault

-- the number of the line that is to blame by itself, if one is: it holds no management message, or is too long
abbrev pub line_of : Fault → Option ℕ
line_of (faults.LineTooLong number) = Some number
line_of (faults.BadLine number why) = Some number
line_of fault = None

abbrev pub is_of_line : Fault → Bool
is_of_line fault = is_some (line_of fault)

-- reading, writing or memory failed, which says nothing of words or lines
abbrev pub is_outside : Fault → Bool
is_outside faults.ReadFault = true
is_outside faults.OutOfMemory = true
is_outside faults.WriteFault = true
is_outside fault = false

-- this line is to blame, or none
abbrev pub IsAtLine : ℕ → Fault → Type 0
IsAtLine number fault = (line_of fault ≡ Some number) ⊎ (is_outside fault ≡ true)

-- a line is to blame, or none
abbrev pub IsAtSomeLine : Fault → Type 0
IsAtSomeLine fault = (is_of_line fault ≡ true) ⊎ (is_outside fault ≡ true)

-- why no octets were read from digits
abbrev pub digits_fault : FromHexError → Fault
digits_fault digits.OutOfMemory = faults.OutOfMemory
digits_fault error = faults.BadHex

-- what is written on standard error of a fault with this text
abbrev pub fault_line : List ℕ → List ℕ
fault_line text = codes "ptpm: " ++ text ++ 10 ∷ []
