-- What the file of a session has, as far as it says what became of a step.
use Rattle.std.specs.Prelude.{ℕ, List, Option, Some, None, if◌then◌else◌}
use Rattle.ptpm_data.specs.Request.{RequestValue}
use Rattle.ptpm_manager.specs.ImageReading.{session_at}
use Rattle.ptpm_manager.specs.Restoring.{is_long}
use Rattle.ptpm_manager.specs.Session.{SessionValue}
use Rattle.ptpm_asker.specs.Desk.{latest_number, next_number}
use Rattle.ptpm_asker.specs.Question.{is_question}
use Rattle.ptpm_apply.specs.declared.in_file.InFile.{InFile}

-- the request under way; a question is none
abbrev pub left_of : Option RequestValue → Option RequestValue
left_of None = None
left_of (Some q) = if is_question q then None else Some q

abbrev pub in_file_of : SessionValue → InFile
in_file_of s = record { latest = latest_number s; next = next_number s; left = left_of s.unanswered }

-- octets that are too few for an image are no file
abbrev pub session_in : List ℕ → Option SessionValue
session_in octets = if is_long octets then Some (session_at octets) else None
