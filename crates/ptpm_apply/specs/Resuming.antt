-- What the table of `Standing` says about a desk, and what of that is so.
use Rattle.std.specs.Prelude.{◌≡◌, ℕ, List, [], Option, Some, None}
use Rattle.std.specs.List.{AllByRecursion}
use Rattle.std.specs.Option.{option_map}
use Rattle.ptpm_data.specs.Request.{RequestValue}
use Rattle.ptpm_manager.specs.Session.{SessionValue}
use Rattle.ptpm_asker.specs.Desk.{Desk, Move, moved_by, new_run, reopened}
use Rattle.ptpm_apply.specs.declared.noted.Noted.{Noted}
use Rattle.ptpm_apply.specs.declared.standing.Standing.{Standing}
use Rattle.ptpm_apply.specs.InFile.{in_file_of}
use Rattle.ptpm_apply.specs.Standing.{standing_of}
use Rattle.ptpm_apply.specs.Watching.{Sent, Watch, nothing_seen, watched_by}

-- a program begins with what the file has, and with nothing noted
abbrev pub opened_desk : Option SessionValue → SessionValue → Desk
opened_desk file s = record { live = reopened file s; file = file; notes = []; run = new_run }

-- the desk, and what left, after these moves
abbrev pub desk_after : Option SessionValue → SessionValue → List Move → Desk
desk_after file s moves = moved_by (opened_desk file s) moves

abbrev pub watch_after : Option SessionValue → SessionValue → List Move → Watch
watch_after file s moves = watched_by (opened_desk file s) nothing_seen moves

-- a step is begun, or the latest step has an answer
abbrev pub noted_begun : ℕ → RequestValue → Option ℕ → Noted
noted_begun number q told = record { begun = Some (record { number = number; request = q }); told = told }

abbrev pub noted_told : ℕ → Noted
noted_told number = record { begun = None; told = Some number }

abbrev pub standing_at : Noted → Desk → Standing
standing_at noted d = standing_of noted (option_map in_file_of d.file)

-- no message of this request is among them
abbrev pub HasNotLeft : RequestValue → List Sent → Type 0
HasNotLeft q left = AllByRecursion (λ (m : Sent). m.request ≡ q → ⊥) left
