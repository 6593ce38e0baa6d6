-- The numbers of a journal (this project's profile): those that its calls answer, and those of marks.
use Rattle.std.specs.Prelude.{ℕ, Option, Some, None}
use Rattle.ptpm_journal.specs.declared.error.AddError.{AddError}
use Rattle.ptpm_journal.specs.declared.error.AddError.TheVariants as adds
use Rattle.ptpm_journal.specs.declared.error.NextError.{NextError}
use Rattle.ptpm_journal.specs.declared.error.NextError.TheVariants as nexts
use Rattle.ptpm_journal.specs.declared.record.Mark.{Mark}
use Rattle.ptpm_journal.specs.declared.record.Mark.TheVariants as marks
use Rattle.ptpm_host.specs.Numbers.{no_memory, no_room}

-- a handle holds no journal
abbrev pub no_journal : ℕ
no_journal = 126

-- numbers are no record
abbrev pub no_record : ℕ
no_record = 127

-- the file of a journal has no further record
abbrev pub journal_is_whole : ℕ
journal_is_whole = 129

abbrev pub add_number : AddError → ℕ
add_number adds.NoRecord = no_record
add_number adds.NotAllowed = 128
add_number adds.NoRoom = no_room
add_number adds.OutOfMemory = no_memory

abbrev pub next_number : NextError → ℕ
next_number nexts.OtherVersion = 105
next_number nexts.Damaged = 107
next_number nexts.OutOfMemory = no_memory

-- what it says of a step
abbrev pub mark_number : Option Mark → ℕ
mark_number None = 6
mark_number (Some marks.Untouched) = 0
mark_number (Some marks.Begun) = 1
mark_number (Some marks.Done) = 2
mark_number (Some marks.Refused) = 3
mark_number (Some marks.Answered) = 4
mark_number (Some marks.LetGo) = 5
