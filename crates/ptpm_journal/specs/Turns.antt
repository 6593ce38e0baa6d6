-- What a journal makes of a record that is added, and of the octets of a file (this project's profile).
use Rattle.std.specs.Prelude.{◌≡◌, ◌+◌, ◌==◌, ◌&&◌, ◌||◌, nat_le, ℕ, Bool, true, List, [], length, take, drop, codes, bytes_eq, IsSomeAnd, Option, Some, None, Result, Ok, Err, if◌then◌else◌}
use Rattle.ptpm_codec.specs.Layout.{octet}
use Rattle.ptpm_journal.specs.declared.error.NextError.{NextError}
use Rattle.ptpm_journal.specs.declared.error.NextError.TheVariants as refusals
use Rattle.ptpm_journal.specs.declared.framing.Frame.TheVariants as frames
use Rattle.ptpm_journal.specs.declared.reading.Next.{Next}
use Rattle.ptpm_journal.specs.declared.record.Head.{Head}
use Rattle.ptpm_journal.specs.Frames.{crc_after, frame_at}
use Rattle.ptpm_journal.specs.Journal.{MayTake, State, has_all, is_step, taken}
use Rattle.ptpm_journal.specs.Octets.{found_in}
use Rattle.ptpm_journal.specs.Torn.{may_be_torn}

-- a file begins with it
abbrev pub journal_mark : List ℕ
journal_mark = codes "PTPJ"

abbrev pub lead_of : Option Head → List ℕ
lead_of None = journal_mark
lead_of (Some head) = []

abbrev pub is_marked : List ℕ → Bool
is_marked octets = nat_le 4 (length octets) && bytes_eq (take 4 octets) journal_mark

-- how many octets come before the next record. A file of an earlier version begins with another octet
abbrev pub lead_in : Option Head → List ℕ → Result ℕ NextError
lead_in (Some head) octets = Ok 0
lead_in None octets =
    if is_marked octets then Ok 4
    else if length octets == 0 || octet 0 octets == 80 then Err refusals.Damaged
    else Err refusals.OtherVersion

-- the size and the body of the next record
abbrev pub counted_in : Next → List ℕ → List ℕ
counted_in n octets = take (n.size + 2) (drop n.lead octets)

-- the next record is whole, and a run may make it; so it is taken
pub record IsRead (before : State) (crc : ℕ) (octets : List ℕ) (n : Next) (after : State) (later : ℕ) : Type 0 where
  pub lead : lead_in before.head octets ≡ Ok n.lead
  pub frame : frame_at crc (drop n.lead octets) ≡ frames.Whole n.size
  pub found : found_in (drop 2 (counted_in n octets)) ≡ Some n.found
  pub may : MayTake before n.found.entry
  pub becomes : after ≡ taken before n.found.entry
  pub counts : later ≡ crc_after crc (counted_in n octets)

-- the next record is whole, and a run may make it; it is a step, for which memory may be refused
pub record IsAtStep (s : State) (crc : ℕ) (octets : List ℕ) : Type 0 where
  pub lead : ℕ
  pub size : ℕ
  pub is_lead : lead_in s.head octets ≡ Ok lead
  pub frame : frame_at crc (drop lead octets) ≡ frames.Whole size
  pub step : IsSomeAnd (found_in (drop 2 (take (size + 2) (drop lead octets))))
      (λ f. MayTake s f.entry × (is_step f.entry ≡ true))

-- no further record was written whole, and the head and all steps are there
pub record IsAtEnd (s : State) (crc : ℕ) (octets : List ℕ) : Type 0 where
  pub lead : ℕ
  pub is_lead : lead_in s.head octets ≡ Ok lead
  pub torn : frame_at crc (drop lead octets) ≡ frames.Torn
  pub all : has_all s.head s.steps ≡ true
  pub may : may_be_torn (drop lead octets) ≡ true

-- neither a record nor the end comes next
pub record IsStuck (s : State) (crc : ℕ) (octets : List ℕ) : Type 0 where
  pub no_record : (n : Next) (after : State) (later : ℕ) → IsRead s crc octets n after later → ⊥
  pub no_end : IsAtEnd s crc octets → ⊥
