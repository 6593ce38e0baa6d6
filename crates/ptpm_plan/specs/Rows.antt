-- The rows of a plan: what becomes of each member that it asks for.
use Rattle.std.specs.Prelude.{◌≡◌, ℕ, ◌==◌, Bool, true, false, if◌then◌else◌, is_some, ◌&&◌, List, [], ◌∷◌, ◌++◌, fold, Option, Some, None, Result, Ok, Err, OnOk}
use Rattle.std.specs.List.{find}
use Rattle.ptpm_codec.specs.Identity.{same_clock}
use Rattle.ptpm_plan.specs.PlannedId.{number_of}
use Rattle.ptpm_plan.specs.Verdicts.{is_alike, verdict_of}
use Rattle.ptpm_plan.specs.declared.answer.Answer.{Answer}
use Rattle.ptpm_plan.specs.declared.file_fault.FileFault.{FileFault}
use Rattle.ptpm_plan.specs.declared.file_fault.FileFault.TheVariants as faults
use Rattle.ptpm_plan.specs.declared.rows.Row.{Row}
use Rattle.ptpm_plan.specs.declared.subject.Subject.{Subject}
use Rattle.ptpm_plan.specs.declared.wish.Wished.{Wished}

-- the row of a member that is wished to be so
abbrev pub row_of : List Answer → ℕ → Subject → Wished → Row
row_of answers place subject wished = record { place = place; subject = subject; verdict = verdict_of answers subject wished }

-- it is of the same member
abbrev pub is_row_of : Subject → Row → Bool
is_row_of s r =
    (r.subject.domain == s.domain)
    && (same_clock r.subject.clock s.clock && ((r.subject.port == s.port) && (number_of r.subject.id == number_of s.id)))

abbrev pub row_in : Subject → List Row → Option Row
row_in s rows = find (is_row_of s) rows

-- one row more, unless its member has one
abbrev pub with_row : List Row → Row → List Row
with_row rows row = if is_some (row_in row.subject rows) then rows else rows ++ row ∷ []

-- with success these rows are added, one after the other
abbrev pub Adds : {E : Type 0} → Result (Unit {0}) E → List Row → List Row → List Row → Type 0
Adds result old new rows = OnOk result (new ≡ fold with_row old rows)

abbrev pub AddsOrRepeats : Option Row → List Row → Row → List Row → Type 0
AddsOrRepeats None old row new = new ≡ old ++ row ∷ []
AddsOrRepeats (Some there) old row new = (is_alike there.verdict row.verdict ≡ true) × (new ≡ old)

abbrev pub IsAtOdds : Option Row → Row → FileFault → Type 0
IsAtOdds None row fault = fault ≡ faults.OutOfMemory
IsAtOdds (Some there) row fault = (is_alike there.verdict row.verdict ≡ false) × (fault ≡ faults.TwoValues row.subject)

-- a row is added if its member has none yet; else it has to say the same as that one, and is left out
abbrev pub AddsRow : List Row → Row → Result (Unit {0}) FileFault → List Row → Type 0
AddsRow old row (Ok done) new = AddsOrRepeats (row_in row.subject old) old row new
AddsRow old row (Err fault) new = (new ≡ old) × IsAtOdds (row_in row.subject old) row fault
