-- A change begins, or goes on, with the journal of a file.
use Rattle.std.specs.Prelude.{◌≡◌, ◌+◌, ◌⊎◌, nat_lt, ℕ, false, true, List, [], ◌∷◌, ◌++◌, drop, length, slice_set, take, Option, None, Some, if◌then◌else◌}
use Rattle.ptpm_journal.specs.declared.error.NextError.{NextError}
use Rattle.ptpm_journal.specs.declared.error.NextError.TheVariants as nexts
use Rattle.ptpm_journal.specs.declared.reading.Found.{Found}
use Rattle.ptpm_journal.specs.declared.reading.Next.{Next}
use Rattle.ptpm_journal.specs.declared.record.Note.{Note}
use Rattle.ptpm_journal.specs.declared.record.Note.TheVariants as notes
use Rattle.ptpm_journal.specs.declared.record.Record.{Record}
use Rattle.ptpm_journal.specs.declared.record.Record.TheVariants as records
use Rattle.ptpm_journal.specs.declared.record.Step.{Step}
use Rattle.ptpm_journal.specs.Journal.{State, goes_on}
use Rattle.ptpm_journal.specs.Turns.{IsAtEnd, IsAtStep, IsRead, IsStuck}
use Rattle.ptpm_apply.specs.declared.choice.Choice.{Choice}
use Rattle.ptpm_apply.specs.declared.choice.Choice.TheVariants as choices
use Rattle.ptpm_apply.specs.declared.choice.OpenError.{OpenError}
use Rattle.ptpm_apply.specs.declared.choice.OpenError.TheVariants as opens
use Rattle.ptpm_apply.specs.Going.{FirstLetGo}
use Rattle.ptpm_apply.specs.Rollout.{RolloutValue}
use Rattle.ptpm_apply.specs.declared.planned.Planned.{Planned}

-- before its first record
abbrev pub no_record : State
no_record = record { head = None; steps = []; marks = []; is_ended = false }

-- ---- what it reads

-- a step as its record has it: the two groups of octets are the values before and after it
pub record IsPlanned (s : Step) (port id : ℕ) (before after : List ℕ) (p : Planned) : Type 0 where
  pub clock_is : p.clock ≡ s.clock
  pub domain_is : p.domain ≡ s.domain
  pub port_is : p.port ≡ port
  pub id_is : p.id ≡ id
  pub before_is : p.before.items ≡ before
  pub after_is : p.after.items ≡ after

pub record AddsStep (s : Step) (port id : ℕ) (before after : List ℕ) (old new : List Planned) : Type 0 where
  pub planned : Planned
  pub is : IsPlanned s port id before after planned
  pub added : new ≡ old ++ planned ∷ []

-- the steps after a record with these groups
abbrev pub StepsAfter : Record → List ℕ → List ℕ → List Planned → List Planned → Type 0
StepsAfter (records.Step s port id) before after old new = AddsStep s port id before after old new
StepsAfter _ before after old new = new ≡ old

abbrev pub noted_number : Note → List ℕ → List ℕ
noted_number (notes.Begun step number) numbers = if nat_lt step (length numbers) then slice_set numbers step number else numbers
noted_number _ numbers = numbers

-- of each step the latest number under which it was begun, and 0 of one that was not
abbrev pub numbers_after : Record → List ℕ → List ℕ
numbers_after (records.Step s port id) numbers = numbers ++ 0 ∷ []
numbers_after (records.Note time note) numbers = noted_number note numbers
numbers_after _ numbers = numbers

-- a record is taken: `body` begins with its own
pub record Takes (f : Found) (body : List ℕ) (old new : List Planned) (before after : List ℕ) : Type 0 where
  pub steps : StepsAfter f.entry (take f.first_size (drop f.first body)) (take f.second_size (drop f.second body)) old new
  pub numbers : after ≡ numbers_after f.entry before

-- the records up to a place were read one after the other, and a run may have made each. The steps and their numbers are theirs
pub data AreRead (octets : List ℕ) : ℕ → State → ℕ → List Planned → List ℕ → Type 0 where
  None_read : AreRead octets 0 no_record 0 [] []
  One_more : (place crc later : ℕ) (s t : State) (n : Next) (steps more : List Planned) (numbers others : List ℕ)
      → AreRead octets place s crc steps numbers → IsRead s crc (drop place octets) n t later
      → Takes n.found (drop (n.lead + 2) (drop place octets)) steps more numbers others
      → AreRead octets (place + n.lead + n.size + 6) t later more others

-- ---- why it is refused

-- records were read up to a place at which neither a record nor the end comes next
pub record IsUnreadable (octets : List ℕ) : Type 0 where
  pub place : ℕ
  pub crc : ℕ
  pub journal : State
  pub steps : List Planned
  pub numbers : List ℕ
  pub are_read : AreRead octets place journal crc steps numbers
  pub is_stuck : IsStuck journal crc (drop place octets)

-- the records have an end of the change
pub record HasEnd (octets : List ℕ) : Type 0 where
  pub place : ℕ
  pub crc : ℕ
  pub journal : State
  pub steps : List Planned
  pub numbers : List ℕ
  pub are_read : AreRead octets place journal crc steps numbers
  pub is_ended : journal.is_ended ≡ true

-- records were read up to a step, or all of them, and the change goes on
pub record MayLackMemory (octets : List ℕ) : Type 0 where
  pub place : ℕ
  pub crc : ℕ
  pub journal : State
  pub steps : List Planned
  pub numbers : List ℕ
  pub are_read : AreRead octets place journal crc steps numbers
  pub comes : IsAtStep journal crc (drop place octets) ⊎ (IsAtEnd journal crc (drop place octets) × (goes_on journal ≡ true))

abbrev pub IsRefusedBy : List ℕ → OpenError → Type 0
IsRefusedBy octets opens.OtherVersion = IsUnreadable octets
IsRefusedBy octets opens.Damaged = IsUnreadable octets
IsRefusedBy octets opens.Ended = HasEnd octets
IsRefusedBy octets opens.OutOfMemory = MayLackMemory octets

abbrev pub refusal_of : NextError → OpenError
refusal_of nexts.OtherVersion = opens.OtherVersion
refusal_of nexts.Damaged = opens.Damaged
refusal_of nexts.OutOfMemory = opens.OutOfMemory

-- ---- what is to be done

-- a change with a step that is given up can only be given up
abbrev pub chosen : Choice → Option ℕ → Choice
chosen choice None = choice
chosen choice (Some step) = choices.GiveUp

pub record IsChosen (o : RolloutValue) (choice : Choice) : Type 0 where
  pub let_go : Option ℕ
  pub is_first : FirstLetGo o.journal.marks (length o.steps) let_go
  pub becomes : o.choice ≡ chosen choice let_go
