-- What a command takes of the lines of standard input, one after another, up to the first fault (this project's profile).
use Rattle.std.specs.Prelude.{◌≡◌, ℕ, ◌+◌, ◌-◌, ◌^◌, ◌<◌, Bool, true, false, length, List, [], ◌∷◌, Option, Some, None, Result, Ok, Err, if◌then◌else◌, flat_map}
use Rattle.std.specs.Io.KnownBytes.{Appends}
use Rattle.std.specs.Option.{option_to_list}
use Rattle.ptpm_codec.specs.declared.message.Message.{Message}
use Rattle.ptpm_codec.specs.Reading.{reading}
use Rattle.ptpm_text.specs.Lines.{BothKnown, is_long, whole_lines}
use Rattle.ptpm_commands.specs.declared.faults.Fault.{Fault}
use Rattle.ptpm_commands.specs.declared.faults.Fault.TheVariants as faults
use Rattle.ptpm_commands.specs.Faults.{at_line, is_outside}
use Rattle.ptpm_commands.specs.Lines.{datagram_in, row_in}
use Rattle.ptpm_commands.specs.declared.show.Values.{Values}
use Rattle.ptpm_commands.specs.Show.{read_as, row_lines}

-- ---- of one line, by its number

-- nothing else is said of a line that is too long
abbrev pub unless_long : {A : Type 0} → ℕ → List ℕ → Result A Fault → Result A Fault
unless_long number octets r = if is_long octets then Err (faults.LineTooLong number) else r

-- its datagram, none if it is `nothing`
abbrev pub line_datagram : ℕ → List ℕ × List ℕ → Result (Option (List ℕ)) Fault
line_datagram number line = unless_long number line.1 (datagram_in number line.0)

abbrev pub with_columns : ℕ → List (List ℕ) → Result Message Fault → Result (Option (List (List ℕ) × Message)) Fault
with_columns number columns (Ok m) = Ok (Some (columns, m))
with_columns number columns (Err fault) = Err (at_line number fault)

abbrev pub message_in : ℕ → List (List ℕ) → Option (List ℕ) → Result (Option (List (List ℕ) × Message)) Fault
message_in number columns None = Ok None
message_in number columns (Some datagram) = with_columns number columns (read_as (reading datagram))

abbrev pub message_of_row : ℕ → Result (List (List ℕ) × Option (List ℕ)) Fault → Result (Option (List (List ℕ) × Message)) Fault
message_of_row number (Ok row) = message_in number row.0 row.1
message_of_row number (Err fault) = Err fault

-- its message with its columns, none if `nothing` comes after these
abbrev pub line_message : ℕ → List ℕ × List ℕ → Result (Option (List (List ℕ) × Message)) Fault
line_message number line = unless_long number line.1 (message_of_row number (row_in number line.0))

-- ---- of all

-- what lines have, and their first fault, if there is one
pub record Taken (A : Type 0) : Type 0 where
  pub values : List A
  pub fault : Option Fault

abbrev pub nothing_taken : {A : Type 0} → Option Fault → Taken A
nothing_taken fault = record { values = []; fault = fault }

abbrev pub taken_first : {A : Type 0} → Result (Option A) Fault → Taken A → Taken A
taken_first (Ok None) others = others
taken_first (Ok (Some value)) others = record { values = value ∷ others.values; fault = others.fault }
taken_first (Err fault) others = nothing_taken (Some fault)

-- lines from this number on, by what each has
abbrev pub taken : {A : Type 0}
    → (ℕ → List ℕ × List ℕ → Result (Option A) Fault)
    → ℕ
    → List (List ℕ × List ℕ)
    → Taken A
taken has number [] = nothing_taken None
taken has number (line ∷ lines) = taken_first (has number line) (taken has (number + 1) lines)

abbrev pub good_first : {A : Type 0} → Result (Option A) Fault → List A → List A
good_first (Ok None) others = others
good_first (Ok (Some value)) others = value ∷ others
good_first (Err fault) others = others

-- what lines from this number on have; a line with a fault has nothing
abbrev pub good : {A : Type 0}
    → (ℕ → List ℕ × List ℕ → Result (Option A) Fault)
    → ℕ
    → List (List ℕ × List ℕ)
    → List A
good has number [] = []
good has number (line ∷ lines) = good_first (has number line) (good has (number + 1) lines)

-- the lines are so few that each has a number of 64 bits
abbrev pub HasNumbers : List ℕ → Type 0
HasNumbers octets = length (whole_lines octets) < 2 ^ 64 - 1

-- ---- what a call does

-- of the lines that were left, the first, which has this number, has this, and the others are left
abbrev pub IsNext : {A : Type 0}
    → (ℕ → List ℕ × List ℕ → Result (Option A) Fault)
    → ℕ
    → Option (List ℕ)
    → Option (List ℕ)
    → Result (Option A) Fault
    → Type 0
IsNext has number before after r = BothKnown before after (λ xs ys.
    (line : List ℕ × List ℕ) × ((whole_lines xs ≡ line ∷ whole_lines ys) × (has number line ≡ r)))

-- no line is left
abbrev pub IsLast : Option (List ℕ) → Option (List ℕ) → Type 0
IsLast before after = BothKnown before after (λ xs ys. (whole_lines xs ≡ []) × (whole_lines ys ≡ []))

-- the message of a row was printed, if it has one
abbrev pub ShowsRow : Values → ℕ → List (List ℕ) × Option (List ℕ) → Option (List ℕ) → Option (List ℕ) → Type 0
ShowsRow form number row before after =
    (value : Option (List (List ℕ) × Message))
    × ((message_in number row.0 row.1 ≡ Ok value) × Appends before after (flat_map (row_lines form) (option_to_list value)))

-- the message of the next line was printed, if it has one; or no line was left, and nothing was printed
abbrev pub ShowsNext : Values → ℕ → Bool → Option (List ℕ) → Option (List ℕ) → Option (List ℕ) → Option (List ℕ) → Type 0
ShowsNext form number true left behind before after =
    (value : Option (List (List ℕ) × Message))
    × (IsNext line_message number left behind (Ok value) × Appends before after (flat_map (row_lines form) (option_to_list value)))
ShowsNext form number false left behind before after = IsLast left behind × (after ≡ before)

-- It ends with the first fault of the lines, if they have one, unless reading, writing or memory failed. What it wrote is
-- what their values before that are written as.
abbrev pub HasTaken : {A B : Type 0}
    → (List A → List ℕ)
    → Taken A
    → Option (List ℕ)
    → Option (List ℕ)
    → Result B Fault
    → Type 0
HasTaken text t before after (Ok done) = (t.fault ≡ None) × Appends before after (text t.values)
HasTaken text t before after (Err e) = is_outside e ≡ false → (t.fault ≡ Some e) × Appends before after (text t.values)
