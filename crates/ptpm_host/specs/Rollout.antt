-- A change of several clocks in plain numbers (this project's profile): how it goes on, what is said to it, and what it hands out.
use Rattle.std.specs.Prelude.{ℕ, ◌==◌, true, false, List, Option, Some, None, if◌then◌else◌}
use Rattle.std.specs.Borrow.{Bor}
use Rattle.ptpm_journal.specs.Octets.{ending_code}
use Rattle.ptpm_apply.specs.declared.action.Action.{Action}
use Rattle.ptpm_apply.specs.declared.action.Action.TheVariants as actions
use Rattle.ptpm_apply.specs.declared.action.Over.{Over}
use Rattle.ptpm_apply.specs.declared.action.Over.TheVariants as overs
use Rattle.ptpm_apply.specs.declared.action.Why.{Why}
use Rattle.ptpm_apply.specs.declared.action.Why.TheVariants as whys
use Rattle.ptpm_apply.specs.declared.choice.Choice.{Choice}
use Rattle.ptpm_apply.specs.declared.choice.Choice.TheVariants as choices
use Rattle.ptpm_apply.specs.declared.choice.OpenError.{OpenError}
use Rattle.ptpm_apply.specs.declared.choice.OpenError.TheVariants as opens
use Rattle.ptpm_apply.specs.declared.choice.TurnError.{TurnError}
use Rattle.ptpm_apply.specs.declared.choice.TurnError.TheVariants as turns
use Rattle.ptpm_apply.specs.declared.event.Event.{Event}
use Rattle.ptpm_apply.specs.declared.event.Event.TheVariants as events
use Rattle.ptpm_host.specs.declared.rollout_action.RolloutAction.{RolloutAction}
use Rattle.ptpm_host.specs.declared.rollout_event.RolloutEvent.{RolloutEvent}
use Rattle.ptpm_host.specs.Numbers.{no_memory}

-- ---- what calls answer

-- a handle holds no rollout
abbrev pub no_rollout : ℕ
no_rollout = 130

-- an event answers no action that is due, or is none
abbrev pub out_of_turn : ℕ
out_of_turn = 132

-- there is no such choice
abbrev pub no_choice : ℕ
no_choice = 41

abbrev pub open_number : OpenError → ℕ
open_number opens.OtherVersion = 105
open_number opens.Damaged = 107
open_number opens.Ended = 131
open_number opens.OutOfMemory = no_memory

abbrev pub turn_number : TurnError → ℕ
turn_number turns.OutOfTurn = out_of_turn
turn_number turns.OutOfMemory = no_memory

-- ---- what is said to it

abbrev pub choice_of : ℕ → Option Choice
choice_of number =
    if number == 0 then Some choices.Stop
    else if number == 1 then Some choices.KeepGoing
    else if number == 2 then Some choices.GiveUp
    else if number == 3 then Some choices.Settle
    else None

abbrev pub event_of : RolloutEvent → Bor (List ℕ) → Option Event
event_of e octets =
    if e.what == 0 then Some events.Begin
    else if e.what == 1 then Some (events.Found octets)
    else if e.what == 2 then Some (events.Begins e.number)
    else if e.what == 3 then Some events.Unsent
    else if e.what == 4 then Some (events.Value octets)
    else if e.what == 5 then Some (events.Refused e.error)
    else if e.what == 6 then Some events.Silent
    else if e.what == 7 then Some events.Done
    else if e.what == 8 then Some (events.Checked true)
    else if e.what == 9 then Some (events.Checked false)
    else if e.what == 10 then Some events.NotWritten
    else if e.what == 11 then Some events.Interrupted
    else None

-- ---- what it hands out

-- of this kind alone, at no step
abbrev pub kind_alone : ℕ → RolloutAction
kind_alone what = record { what = what; lane = 0; step = 65535; domain = 0; ending = 0; why = 0; zero = 0 }

-- nothing
abbrev pub no_action : RolloutAction
no_action = record (kind_alone 0) { step = 0 }

abbrev pub step_number : Option ℕ → ℕ
step_number None = 65535
step_number (Some step) = step

abbrev pub why_number : Why → ℕ
why_number whys.Silent = 1
why_number whys.Unknown = 2
why_number whys.NotWritten = 3
why_number whys.Interrupted = 4

-- it is over; the reason 5 is that all is settled
abbrev pub over_action : Over → RolloutAction
over_action (overs.Ended ending step) = record (kind_alone 10) { ending = ending_code ending; step = step_number step }
over_action (overs.Open why step) = record (kind_alone 10) { why = why_number why; step = step_number step }
over_action overs.Settled = record (kind_alone 10) { why = 5 }

abbrev pub plain_action : Action → RolloutAction
plain_action (actions.Look lane) = record (kind_alone 1) { lane = lane }
plain_action (actions.Settle lane step domain) = record (kind_alone 2) { lane = lane; step = step_number step; domain = domain }
plain_action (actions.LetGo lane) = record (kind_alone 3) { lane = lane }
plain_action (actions.Read step domain) = record (kind_alone 4) { step = step; domain = domain }
plain_action (actions.Check step) = record (kind_alone 5) { step = step }
plain_action (actions.Ask step) = record (kind_alone 6) { step = step }
plain_action actions.Note = kind_alone 7
plain_action (actions.GoOn lane) = record (kind_alone 8) { lane = lane }
plain_action (actions.Leave lane) = record (kind_alone 9) { lane = lane }
plain_action (actions.Over how) = over_action how
