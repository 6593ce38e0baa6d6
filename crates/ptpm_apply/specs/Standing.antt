-- What became of the step that a journal has begun last in the session with a clock. The file of the session says it (this
-- project's profile).
use Rattle.std.specs.Prelude.{ℕ, ◌==◌, Option, Some, None, if◌then◌else◌}
use Rattle.ptpm_data.specs.Request.{RequestValue}
use Rattle.ptpm_table.specs.Numbering.{same_request}
use Rattle.ptpm_apply.specs.declared.in_file.InFile.{InFile}
use Rattle.ptpm_apply.specs.declared.noted.Begun.{Begun}
use Rattle.ptpm_apply.specs.declared.noted.Noted.{Noted}
use Rattle.ptpm_apply.specs.declared.standing.Standing.{Standing}
use Rattle.ptpm_apply.specs.declared.standing.Standing.TheVariants as standings

-- ---- a step is begun, and its answer is not noted

-- a request with its number is under way
abbrev pub begun_with : Begun → RequestValue → Standing
begun_with b q = if same_request b.request q then standings.UnderWay else standings.NumberTaken

-- a request is under way, or none
abbrev pub begun_by : Begun → InFile → Option RequestValue → Standing
begun_by b f (Some q) = if f.latest == b.number then begun_with b q else standings.Unknown
begun_by b f None = if f.next == b.number then standings.NeverBegun else standings.Unknown

abbrev pub begun_in : Begun → Option InFile → Standing
begun_in b None = standings.Unknown
begun_in b (Some f) = begun_by b f f.left

-- ---- no step is

abbrev pub left_by : Option ℕ → InFile → Option RequestValue → Standing
left_by told f None = standings.NothingLeft
left_by (Some number) f (Some q) = if f.latest == number then standings.Told else standings.OfAnother
left_by None f (Some q) = standings.OfAnother

abbrev pub left_in : Option ℕ → Option InFile → Standing
left_in told None = standings.NothingLeft
left_in told (Some f) = left_by told f f.left

-- ---- either

abbrev pub standing_by : Option Begun → Option ℕ → Option InFile → Standing
standing_by (Some b) told file = begun_in b file
standing_by None told file = left_in told file

abbrev pub standing_of : Noted → Option InFile → Standing
standing_of noted file = standing_by noted.begun noted.told file
