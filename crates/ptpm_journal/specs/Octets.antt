-- The octets of a record, and the record that octets are (this project's profile). A number of several octets has the highest first.
use Rattle.std.specs.Prelude.{◌<◌, ◌+◌, ◌^◌, ◌==◌, ◌&&◌, nat_le, ℕ, Bool, List, [], ◌∷◌, ◌++◌, length, drop, Option, Some, None, if◌then◌else◌}
use Rattle.std.specs.Option.{option_map}
use Rattle.byteorder.specs.Endian.{big_bytes, big_number}
use Rattle.ptpm_codec.specs.Layout.{number_at, octet}
use Rattle.ptpm_journal.specs.declared.record.Step.{Step}
use Rattle.ptpm_journal.specs.declared.record.Head.{Head}
use Rattle.ptpm_journal.specs.declared.record.Policy.{Policy}
use Rattle.ptpm_journal.specs.declared.record.Outcome.{Outcome}
use Rattle.ptpm_journal.specs.declared.record.Outcome.TheVariants as outcomes
use Rattle.ptpm_journal.specs.declared.record.Ending.{Ending}
use Rattle.ptpm_journal.specs.declared.record.Ending.TheVariants as endings
use Rattle.ptpm_journal.specs.declared.record.Note.{Note}
use Rattle.ptpm_journal.specs.declared.record.Note.TheVariants as notes
use Rattle.ptpm_journal.specs.declared.record.Record.{Record}
use Rattle.ptpm_journal.specs.declared.record.Record.TheVariants as records
use Rattle.ptpm_journal.specs.declared.reading.Found.{Found}

-- ---- kinds

abbrev pub note_kind : Note → ℕ
note_kind (notes.Begun step number) = 3
note_kind (notes.NotBegun step) = 4
note_kind (notes.LetGo step) = 5
note_kind (notes.Told step outcome error) = 6

abbrev pub kind_of : Record → ℕ
kind_of (records.Head head) = 1
kind_of (records.Step step port id) = 2
kind_of (records.Note time note) = note_kind note
kind_of (records.Policy time policy) = 7
kind_of (records.End time ending step) = 8
kind_of (records.Text what) = 9

-- how many octets the kind and its numbers have; 0 if there is no such kind
abbrev pub members_size : ℕ → ℕ
members_size kind =
    if kind == 1 then 16
    else if kind == 2 then 15
    else if kind == 3 then 13
    else if kind == 4 then 11
    else if kind == 5 then 11
    else if kind == 6 then 14
    else if kind == 7 then 11
    else if kind == 8 then 12
    else if kind == 9 then 2
    else 0

-- two groups of octets follow. So many octets have the size of a group, and are its first ones
abbrev pub first_width : ℕ → ℕ
first_width kind = if kind == 1 then 1 else if kind == 2 then 2 else if kind == 6 then 2 else if kind == 9 then 2 else 0

abbrev pub second_width : ℕ → ℕ
second_width kind = if kind == 1 then 1 else if kind == 2 then 2 else 0

-- the most octets of a group
abbrev pub most_in : ℕ → ℕ
most_in width = if width == 0 then 0 else if width == 1 then 255 else 4096

-- ---- written

abbrev pub outcome_code : Outcome → ℕ
outcome_code outcomes.Done = 1
outcome_code outcomes.Refused = 2
outcome_code outcomes.Answered = 3

abbrev pub ending_code : Ending → ℕ
ending_code endings.Complete = 1
ending_code endings.Refused = 2
ending_code endings.Answered = 3
ending_code endings.Changed = 4
ending_code endings.GivenUp = 5
ending_code endings.RolledBack = 6
ending_code endings.Stopped = 7
ending_code endings.InPart = 8

abbrev pub note_members : Note → ℕ → List ℕ
note_members (notes.Begun step number) time = 3 ∷ big_bytes 2 step ++ big_bytes 2 number ++ big_bytes 8 time
note_members (notes.NotBegun step) time = 4 ∷ big_bytes 2 step ++ big_bytes 8 time
note_members (notes.LetGo step) time = 5 ∷ big_bytes 2 step ++ big_bytes 8 time
note_members (notes.Told step outcome error) time =
    6 ∷ big_bytes 2 step ++ outcome_code outcome ∷ big_bytes 2 error ++ big_bytes 8 time

-- the kind and the numbers; a head has version 2
unfoldable pub members : Record → List ℕ
members (records.Head h) =
    1 ∷ 2 ∷ h.policy.flags ∷ h.policy.together ∷ big_bytes 8 h.manager ++ big_bytes 2 h.port ++ big_bytes 2 h.count
members (records.Step step port id) =
    2 ∷ big_bytes 8 step.clock ++ step.domain ∷ step.group ∷ big_bytes 2 port ++ big_bytes 2 id
members (records.Note time note) = note_members note time
members (records.Policy time policy) = 7 ∷ policy.flags ∷ policy.together ∷ big_bytes 8 time
members (records.End time ending step) = 8 ∷ ending_code ending ∷ big_bytes 2 step ++ big_bytes 8 time
members (records.Text what) = 9 ∷ what ∷ []

abbrev pub sized : ℕ → List ℕ → List ℕ
sized width octets = big_bytes width (length octets) ++ octets

unfoldable pub body_of : Record → List ℕ → List ℕ → List ℕ
body_of r first second = members r ++ sized (first_width (kind_of r)) first ++ sized (second_width (kind_of r)) second

-- whether its groups have few enough octets
abbrev pub is_short : ℕ → ℕ → ℕ → Bool
is_short kind first second = nat_le first (most_in (first_width kind)) && nat_le second (most_in (second_width kind))

-- numbers of their types
abbrev pub NoteFits : Note → Type 0
NoteFits (notes.Begun step number) = (step < 2 ^ 16) × (number < 2 ^ 16)
NoteFits (notes.NotBegun step) = step < 2 ^ 16
NoteFits (notes.LetGo step) = step < 2 ^ 16
NoteFits (notes.Told step outcome error) = (step < 2 ^ 16) × (error < 2 ^ 16)

abbrev pub Fits : Record → Type 0
Fits (records.Head h) = (h.manager < 2 ^ 64) × (h.port < 2 ^ 16) × (h.count < 2 ^ 16)
Fits (records.Step step port id) = (step.clock < 2 ^ 64) × (port < 2 ^ 16) × (id < 2 ^ 16)
Fits (records.Note time note) = (time < 2 ^ 64) × NoteFits note
Fits (records.Policy time policy) = time < 2 ^ 64
Fits (records.End time ending step) = (time < 2 ^ 64) × (step < 2 ^ 16)
Fits (records.Text what) = Unit {0}

-- ---- read

abbrev pub outcome_of : ℕ → Option Outcome
outcome_of code =
    if code == 1 then Some outcomes.Done
    else if code == 2 then Some outcomes.Refused
    else if code == 3 then Some outcomes.Answered
    else None

abbrev pub ending_of : ℕ → Option Ending
ending_of code =
    if code == 1 then Some endings.Complete
    else if code == 2 then Some endings.Refused
    else if code == 3 then Some endings.Answered
    else if code == 4 then Some endings.Changed
    else if code == 5 then Some endings.GivenUp
    else if code == 6 then Some endings.RolledBack
    else if code == 7 then Some endings.Stopped
    else if code == 8 then Some endings.InPart
    else None

abbrev pub time_at : ℕ → List ℕ → ℕ
time_at place body = big_number 8 (drop place body)

abbrev pub policy_at : ℕ → List ℕ → Policy
policy_at place body = record { flags = octet place body; together = octet (place + 1) body }

abbrev pub head_at : List ℕ → Head
head_at body = record {
  policy = policy_at 2 body;
  manager = time_at 4 body;
  port = number_at 12 body;
  count = number_at 14 body;
}

abbrev pub step_at : List ℕ → Step
step_at body = record { clock = time_at 1 body; domain = octet 9 body; group = octet 10 body }

abbrev pub told_at : Option Outcome → List ℕ → Option Record
told_at None body = None
told_at (Some outcome) body = Some (records.Note (time_at 6 body) (notes.Told (number_at 1 body) outcome (number_at 4 body)))

abbrev pub end_at : Option Ending → List ℕ → Option Record
end_at None body = None
end_at (Some ending) body = Some (records.End (time_at 4 body) ending (number_at 2 body))

-- the record without its groups; that of another version is none
unfoldable pub record_at : List ℕ → Option Record
record_at body =
    if octet 0 body == 1 then (if octet 1 body == 2 then Some (records.Head (head_at body)) else None)
    else if octet 0 body == 2 then Some (records.Step (step_at body) (number_at 11 body) (number_at 13 body))
    else if octet 0 body == 3 then Some (records.Note (time_at 5 body) (notes.Begun (number_at 1 body) (number_at 3 body)))
    else if octet 0 body == 4 then Some (records.Note (time_at 3 body) (notes.NotBegun (number_at 1 body)))
    else if octet 0 body == 5 then Some (records.Note (time_at 3 body) (notes.LetGo (number_at 1 body)))
    else if octet 0 body == 6 then told_at (outcome_of (octet 3 body)) body
    else if octet 0 body == 7 then Some (records.Policy (time_at 3 body) (policy_at 1 body))
    else if octet 0 body == 8 then end_at (ending_of (octet 1 body)) body
    else if octet 0 body == 9 then Some (records.Text (octet 1 body))
    else None

-- ---- where the groups are in a body of this kind

abbrev pub first_at : ℕ → ℕ
first_at kind = members_size kind + first_width kind

abbrev pub first_size : ℕ → List ℕ → ℕ
first_size kind body = big_number (first_width kind) (drop (members_size kind) body)

abbrev pub second_at : ℕ → List ℕ → ℕ
second_at kind body = first_at kind + first_size kind body + second_width kind

abbrev pub second_size : ℕ → List ℕ → ℕ
second_size kind body = big_number (second_width kind) (drop (first_at kind + first_size kind body) body)

-- it has the numbers of its kind and these groups, and nothing follows
abbrev pub is_whole : ℕ → List ℕ → Bool
is_whole kind body =
    second_at kind body + second_size kind body == length body
    && is_short kind (first_size kind body) (second_size kind body)

-- a record of this kind with groups of these sizes
abbrev pub found_as : ℕ → Record → ℕ → ℕ → Found
found_as kind r n m = record {
  entry = r;
  first = first_at kind;
  first_size = n;
  second = first_at kind + n + second_width kind;
  second_size = m;
}

abbrev pub found_by : ℕ → List ℕ → Option Found
found_by kind body =
    if is_whole kind body
    then option_map (λ r. found_as kind r (first_size kind body) (second_size kind body)) (record_at body)
    else None

unfoldable pub found_in : List ℕ → Option Found
found_in body = found_by (octet 0 body) body
