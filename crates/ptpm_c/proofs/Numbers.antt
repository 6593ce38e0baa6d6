-- A start that was refused, and not for want of memory, has the number of its first reason; a start or a begin that was refused
-- for no reason, that of want of memory.
use Rattle.std.proofs.Common.{◌≡◌, ◌≢◌, ℕ, List, Option, None, Some, ap, ◌∙◌, arith, drop, inr, refl, true}
use Rattle.ptpm_journal.specs.declared.error.AddError.{AddError}
use Rattle.ptpm_journal.specs.declared.error.AddError.TheVariants as adds
use Rattle.ptpm_journal.specs.declared.error.NextError.{NextError}
use Rattle.ptpm_journal.specs.declared.error.NextError.TheVariants as nexts
use Rattle.ptpm_manager.specs.declared.error.BeginError.{BeginError}
use Rattle.ptpm_manager.specs.declared.error.BeginError.TheVariants as begins
use Rattle.ptpm_manager.specs.declared.error.RestoreError.{RestoreError}
use Rattle.ptpm_manager.specs.declared.error.RestoreError.TheVariants as restores
use Rattle.ptpm_host.specs.declared.refusal.AskerRefusal.{AskerRefusal}
use Rattle.ptpm_host.specs.declared.refusal.AskerRefusal.TheVariants as askers
use Rattle.ptpm_host.specs.declared.refusal.StartRefusal.{StartRefusal}
use Rattle.ptpm_host.specs.declared.refusal.StartRefusal.TheVariants as starts
use Rattle.ptpm_apply.specs.declared.choice.OpenError.{OpenError}
use Rattle.ptpm_apply.specs.declared.choice.OpenError.TheVariants as opens
use Rattle.ptpm_apply.specs.Opening.{AreRead, HasEnd, IsRefusedBy, IsUnreadable, MayLackMemory}
use Rattle.ptpm_apply.specs.declared.planned.Planned.{Planned}
use Rattle.ptpm_journal.specs.Journal.{State, goes_on}
use Rattle.ptpm_journal.specs.Turns.{IsAtEnd}
use Rattle.ptpm_host.specs.JournalNumbers.{add_number, next_number}
use Rattle.ptpm_host.specs.Rollout.{open_number}
use Rattle.ptpm_host.specs.Numbers.{asker_number, begin_number, no_memory, restore_number, start_number}

one_reason : {E : Type 0} (first : Option E) (r e : E)
    → first ≡ Some r
    → first ≡ Some e
    → r ≡ e
one_reason first r e p q = cc

no_reason : {A E : Type 0} (first : Option E) (r : E) → first ≡ Some r → first ≡ None → A
no_reason first r p q = absurd (cc)

pub number_of_start_refusal : (first : Option StartRefusal) (r e : StartRefusal) (number : ℕ)
    → (r ≢ starts.OutOfMemory → first ≡ Some r)
    → number ≡ start_number r
    → number ≢ no_memory
    → first ≡ Some e → number ≡ start_number e
number_of_start_refusal first r e number told numbered not_memory is_e =
    let is_r : first ≡ Some r = told (λ memory. not_memory (numbered ∙ ap start_number memory)) in
    numbered ∙ ap start_number (one_reason first r e is_r is_e)

pub memory_of_start_refusal : (first : Option StartRefusal) (r : StartRefusal) (number : ℕ)
    → (r ≢ starts.OutOfMemory → first ≡ Some r)
    → number ≡ start_number r
    → first ≡ None → number ≡ no_memory
memory_of_start_refusal first (starts.Values fault) number told numbered none = no_reason first _ (told (λ memory. cc)) none
memory_of_start_refusal first (starts.Managers fault) number told numbered none = no_reason first _ (told (λ memory. cc)) none
memory_of_start_refusal first starts.IdentityIsZero number told numbered none = no_reason first _ (told (λ memory. cc)) none
memory_of_start_refusal first starts.OutOfMemory number told numbered none = numbered

pub memory_of_refusal : (first : Option BeginError) (r : BeginError) (number : ℕ)
    → (r ≢ begins.OutOfMemory → first ≡ Some r)
    → number ≡ begin_number r
    → first ≡ None → number ≡ no_memory
memory_of_refusal first begins.OutOfMemory number told numbered none = numbered
memory_of_refusal first r number told numbered none = no_reason first _ (told (λ memory. cc)) none

pub memory_of_restore : (first : Option RestoreError) (r : RestoreError) (number : ℕ)
    → (r ≢ restores.OutOfMemory → first ≡ Some r)
    → number ≡ restore_number r
    → first ≡ None → number ≡ no_memory
memory_of_restore first restores.OutOfMemory number told numbered none = numbered
memory_of_restore first r number told numbered none = no_reason first _ (told (λ memory. cc)) none

pub memory_of_asker_restore : (first : Option AskerRefusal) (r : AskerRefusal) (number : ℕ)
    → (r ≢ askers.Image restores.OutOfMemory → first ≡ Some r)
    → number ≡ asker_number r
    → first ≡ None → number ≡ no_memory
memory_of_asker_restore first (askers.Image restores.OutOfMemory) number told numbered none = numbered
memory_of_asker_restore first r number told numbered none = no_reason first _ (told (λ memory. cc)) none

-- ---- what the number of a refusal says of a journal's file

pub unreadable : (octets : List ℕ) (r : OpenError) (number : ℕ) → number ≡ open_number r → IsRefusedBy octets r
    → number ≡ open_number opens.Damaged → IsUnreadable octets
unreadable octets opens.OtherVersion number is why same = why
unreadable octets opens.Damaged number is why same = why
unreadable octets opens.Ended number is why same = absurd (omega (arith, is, same))
unreadable octets opens.OutOfMemory number is why same = absurd (omega (arith, is, same))

pub of_other_version : (octets : List ℕ) (r : OpenError) (number : ℕ) → number ≡ open_number r → IsRefusedBy octets r
    → number ≡ open_number opens.OtherVersion → IsUnreadable octets
of_other_version octets opens.OtherVersion number is why same = why
of_other_version octets opens.Damaged number is why same = why
of_other_version octets opens.Ended number is why same = absurd (omega (arith, is, same))
of_other_version octets opens.OutOfMemory number is why same = absurd (omega (arith, is, same))

pub has_end : (octets : List ℕ) (r : OpenError) (number : ℕ) → number ≡ open_number r → IsRefusedBy octets r
    → number ≡ open_number opens.Ended → HasEnd octets
has_end octets opens.OtherVersion number is why same = absurd (omega (arith, is, same))
has_end octets opens.Damaged number is why same = absurd (omega (arith, is, same))
has_end octets opens.Ended number is why same = why
has_end octets opens.OutOfMemory number is why same = absurd (omega (arith, is, same))

pub may_lack : (octets : List ℕ) (r : OpenError) (number : ℕ) → number ≡ open_number r → IsRefusedBy octets r
    → number ≡ no_memory → MayLackMemory octets
may_lack octets opens.OtherVersion number is why same = absurd (omega (arith, is, same))
may_lack octets opens.Damaged number is why same = absurd (omega (arith, is, same))
may_lack octets opens.Ended number is why same = absurd (omega (arith, is, same))
may_lack octets opens.OutOfMemory number is why same = why

-- a file that was read whole
pub read_whole : (octets : List ℕ) (place crc : ℕ) (s : State) (steps : List Planned) (numbers : List ℕ)
    → AreRead octets place s crc steps numbers → IsAtEnd s crc (drop place octets) → goes_on s ≡ true → MayLackMemory octets
read_whole octets place crc s steps numbers are_read at_end goes =
    record { place = place; crc = crc; journal = s; steps = steps; numbers = numbers; are_read = are_read; comes = inr (at_end, goes) }

-- ---- which refusal of a journal a number is

pub not_allowed : (r : AddError) (number : ℕ) → number ≡ add_number r → number ≡ add_number adds.NotAllowed → r ≡ adds.NotAllowed
not_allowed adds.NoRecord number is same = absurd (omega (arith, is, same))
not_allowed adds.NotAllowed number is same = refl
not_allowed adds.NoRoom number is same = absurd (omega (arith, is, same))
not_allowed adds.OutOfMemory number is same = absurd (omega (arith, is, same))

pub no_record : (r : AddError) (number : ℕ) → number ≡ add_number r → number ≡ add_number adds.NoRecord → r ≡ adds.NoRecord
no_record adds.NoRecord number is same = refl
no_record adds.NotAllowed number is same = absurd (omega (arith, is, same))
no_record adds.NoRoom number is same = absurd (omega (arith, is, same))
no_record adds.OutOfMemory number is same = absurd (omega (arith, is, same))

-- another number than that of want of memory
pub no_memory_here : (r : NextError) (number : ℕ) → number ≡ next_number r → number ≢ no_memory → r ≢ nexts.OutOfMemory
no_memory_here r number is other same = other (is ∙ ap next_number same)
