-- Which fault a line of a script has by itself (this project's profile), and which faults are none of the script.
use Rattle.std.specs.Prelude.{◌≡◌, ℕ, nat_lt, Bool, true, false, List, [], ◌∷◌, length, Option, IfSome, Some, None, if◌then◌else◌}
use Rattle.std.specs.Option.{option_or}
use Rattle.std.specs.Str.{is_utf8}
use Rattle.ptpm_world.specs.declared.script_error.ScriptError.{ScriptError}
use Rattle.ptpm_world.specs.declared.script_error.ScriptError.TheVariants.{BadLine, BadNetwork, LineTooLong, NotText, OutOfMemory, ReadFault, TooManyLines, WriteFault}
use Rattle.ptpm_text.specs.Lines.{BothKnown, IsNextWhole, whole_lines}

-- reading, writing or memory failed, which says nothing of the script
abbrev pub is_outside : ScriptError → Bool
is_outside ReadFault = true
is_outside WriteFault = true
is_outside OutOfMemory = true
is_outside _ = false

-- a reader's lines can end with it: a line's own fault, or reading or memory failed
abbrev pub is_of_reading : ScriptError → Bool
is_of_reading WriteFault = false
is_of_reading (BadNetwork error) = false
is_of_reading (BadLine number error) = false
is_of_reading _ = true

-- what is written can end with it: writing or memory failed
abbrev pub is_of_writing : ScriptError → Bool
is_of_writing WriteFault = true
is_of_writing OutOfMemory = true
is_of_writing _ = false

-- ---- of one line

-- by its number in all that is read, and all that comes before its line feed
abbrev pub size_fault : ℕ → List ℕ → Option ScriptError
size_fault number octets =
    if nat_lt 2000000 number then Some TooManyLines else if nat_lt 4096 (length octets) then Some (LineTooLong number) else None

-- of the next line, if there is one
abbrev pub next_fault : ℕ → List (List ℕ × List ℕ) → Option ScriptError
next_fault number [] = None
next_fault number (line ∷ lines) = size_fault number line.1

abbrev pub text_fault : ℕ → List ℕ → Option ScriptError
text_fault number line = if is_utf8 line then None else Some (NotText number)

abbrev pub line_fault : ℕ → List ℕ × List ℕ → Option ScriptError
line_fault number line = option_or (size_fault number line.1) (text_fault number line.0)

-- ---- of a reader, if its octets are known

-- the next line came, or none, and its size is no fault
abbrev pub ReadsWhole : ℕ → Option (List ℕ) → Bool → List ℕ → Option (List ℕ) → Type 0
ReadsWhole number before more line after = BothKnown before after (λ xs ys.
    (next_fault number (whole_lines xs) ≡ None) × IsNextWhole more line (whole_lines xs) (whole_lines ys))

-- the next line's size is this fault
abbrev pub HasNextFault : ℕ → Option (List ℕ) → ScriptError → Type 0
HasNextFault number before fault = IfSome before (λ octets. next_fault number (whole_lines octets) ≡ Some fault)
