-- An asker and its driver, who does what the asker hands out, and what may happen to them. What they do is allowed at the asker's desk.
use Rattle.std.specs.Prelude.{◌≡◌, ℕ, Bool, true, false, is_some, if◌then◌else◌, List, [], ◌∷◌, ◌++◌, length, Option, Some, None}
use Rattle.ptpm_manager.specs.declared.ask.Ask.{Ask}
use Rattle.ptpm_manager.specs.Session.{SessionValue, anew}
use Rattle.ptpm_asker.specs.declared.output.Output.{Output}
use Rattle.ptpm_asker.specs.declared.output.Output.TheVariants as outputs
use Rattle.ptpm_asker.specs.declared.settings.Settings.{Settings}
use Rattle.ptpm_asker.specs.declared.stage.Stage.{Stage}
use Rattle.ptpm_asker.specs.declared.stage.Stage.TheVariants as stages
use Rattle.ptpm_asker.specs.Asker.{AskerValue, opened, opened_new, setup_with}
use Rattle.ptpm_asker.specs.Desk.{AreAllowed, Crashes, Desk, IsBegun, IsTold, Move, Note, Notes, Returns, Run, Saves, Starts, moved_by, new_run}
use Rattle.ptpm_asker.specs.Turns.{Turn, asks, asks_refusal, can_settle, hears, idle, lets_go, lets_go_refusal, noted_at, saved_at, settles, turn, unsents, wakes}

-- what an asker is opened with, whenever that is
pub record Opening : Type 0 where
  pub settings : Settings
  pub drawn : List ℕ
  -- the first number of a session without a file
  pub number : ℕ
  pub size : length drawn ≡ 26

pub data Input : Type 0 where
  Asks : (now tag : ℕ) (wanted : Ask) (domain : ℕ) → Input
  Settles : (now tag domain : ℕ) → Input
  GivesUp : Input
  Hears : (datagram : List ℕ) → Input
  Wakes : (now : ℕ) → Input
  IsUnsent : Input
  -- what was handed out to be saved or noted is done, and the owner says so
  IsDone : (now : ℕ) → Input
  -- the program ends at any moment, after this was done or before, and is opened again
  Ends : (is_done : Bool) (opening : Opening) → Input

pub record Driven : Type 0 where
  pub asker : AskerValue
  pub file : Option SessionValue
  pub notes : List Note
  pub run : Run
  -- what was handed out to be saved or noted, and is not done yet
  pub due : List Move

abbrev pub desk_of : Driven → Desk
desk_of x = record { live = x.asker.session; file = x.file; notes = x.notes; run = x.run }

-- What is to be saved or noted after an output: what it says, or what was due before it. What is to be sent is sent as it is handed
-- out.
abbrev pub due_after : List Move → Output → List Move
due_after before outputs.Nothing = before
due_after before (outputs.Begun tag number) = Notes (IsBegun tag number) ∷ []
due_after before outputs.Save = Saves ∷ []
due_after before (outputs.Send wake_at) = []
due_after before (outputs.WakeAt time) = []
due_after before (outputs.Told tag number outcome) = Notes (IsTold tag number outcome) ∷ []
due_after before (outputs.Read wake_at) = []
due_after before (outputs.Failed was_sent is_read_answered) = []

-- ---- one input

abbrev pub done_at : Stage → AskerValue → ℕ → Turn
done_at stages.Resting a now = idle a
done_at stages.Waiting a now = idle a
done_at stages.Noting a now = noted_at stages.Noting a
done_at stages.Saving a now = saved_at stages.Saving a now
done_at stages.Asking a now = idle a
done_at stages.Telling a now = noted_at stages.Telling a
done_at stages.Over a now = idle a

abbrev pub reopens : Option SessionValue → Opening → Turn
reopens None o =
    turn (opened_new o.settings o.drawn o.number) outputs.Nothing (Starts (setup_with o.settings o.number) 0 ∷ [])
reopens (Some f) o = turn (opened o.settings o.drawn (anew f)) outputs.Nothing []

abbrev pub turn_of : Driven → Input → Turn
turn_of x (Asks now tag wanted domain) =
    if is_some (asks_refusal x.asker wanted) then idle x.asker else asks x.asker now tag wanted domain
turn_of x (Settles now tag domain) = if can_settle x.asker then settles x.asker now tag domain else idle x.asker
turn_of x GivesUp = if is_some (lets_go_refusal x.asker) then idle x.asker else lets_go x.asker
turn_of x (Hears datagram) = hears x.asker datagram
turn_of x (Wakes now) = wakes x.asker now
turn_of x IsUnsent = unsents x.asker
turn_of x (IsDone now) = done_at x.asker.stage x.asker now
turn_of x (Ends true o) = reopens (moved_by (desk_of x) x.due).file o
turn_of x (Ends false o) = reopens x.file o

-- the moves before those of the turn
abbrev pub first_moves : Driven → Input → List Move
first_moves x (Asks now tag wanted domain) = []
first_moves x (Settles now tag domain) = []
first_moves x GivesUp = []
first_moves x (Hears datagram) = []
first_moves x (Wakes now) = []
first_moves x IsUnsent = Returns ∷ []
first_moves x (IsDone now) = x.due
first_moves x (Ends true o) = x.due ++ Crashes ∷ []
first_moves x (Ends false o) = Crashes ∷ []

-- what stays to be done
abbrev pub left_due : Driven → Input → List Move
left_due x (Asks now tag wanted domain) = x.due
left_due x (Settles now tag domain) = x.due
left_due x GivesUp = x.due
left_due x (Hears datagram) = x.due
left_due x (Wakes now) = x.due
left_due x IsUnsent = x.due
left_due x (IsDone now) = []
left_due x (Ends is_done o) = []

abbrev pub moves_of : Driven → Input → List Move
moves_of x i = first_moves x i ++ (turn_of x i).moves

abbrev pub driven_by : Desk → Turn → List Move → Driven
driven_by d t due =
    record { asker = t.asker; file = d.file; notes = d.notes; run = d.run; due = due_after due t.output }

abbrev pub after_input : Driven → Input → Driven
after_input x i = driven_by (moved_by (desk_of x) (moves_of x i)) (turn_of x i) (left_due x i)

-- ---- a list of them

abbrev pub all_moves : Driven → List Input → List Move
all_moves x [] = []
all_moves x (i ∷ is) = moves_of x i ++ all_moves (after_input x i) is

-- an asker that was opened with what a file has, or without one, whatever its owner has noted
abbrev pub begins_driven : Opening → Option SessionValue → List Note → Driven
begins_driven o file notes =
    record { asker = (reopens file o).asker; file = file; notes = notes; run = new_run; due = [] }

-- all that an asker hands out, and that its driver does, is allowed
abbrev pub IsAllowedAsker : Opening → Option SessionValue → List Note → List Input → Type 0
IsAllowedAsker o file notes inputs =
    AreAllowed (desk_of (begins_driven o file notes)) (all_moves (begins_driven o file notes) inputs)
