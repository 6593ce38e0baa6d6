-- What is to be found in a script whose events do not happen (this project's profile).
use Rattle.std.specs.Prelude.{◌≡◌, ◌==◌, ℕ, ◌+◌, List, [], ◌∷◌, Option, None, is_none}
use Rattle.std.specs.Option.{option_or}
use Rattle.std.specs.Result.{result_err}
use Rattle.ptpm_world.specs.Script.{event_of}
use Rattle.ptpm_world.specs.ScriptError.{line_fault}
use Rattle.ptpm_world.specs.declared.findings.Findings.{Findings}
use Rattle.ptpm_world.specs.declared.script_error.ScriptError.{ScriptError}

-- no fault is counted exactly if there is none
abbrev pub IsCounted : Findings → Type 0
IsCounted f = (f.count == 0) ≡ is_none f.first

-- The first fault of lines of events from this one on, by its numbers in all that is read and after the divider. It is one that
-- a line has by itself, or that the line is no event. None if each is an event or is skipped.
abbrev pub events_fault : ℕ → ℕ → List (List ℕ × List ℕ) → Option ScriptError
events_fault number place [] = None
events_fault number place (line ∷ lines) =
    option_or (line_fault number line) (option_or (result_err (event_of place line.0)) (events_fault (number + 1) (place + 1) lines))
