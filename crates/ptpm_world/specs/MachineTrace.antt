-- What a script shows of the network of its file, if no delivery of the script is late. At the end it is a network in which the
-- headline holds, and before it, line by line, what the machine does.
use Rattle.std.specs.Prelude.{◌≡◌, ◌<◌, ◌↔◌, ℕ, List, [], ◌∷◌, ◌++◌, false, length, option_map, Ok, Result}
use Rattle.std.specs.Result.{result_err}
use Rattle.ptpm_manager.specs.declared.report.Report.{Report}
use Rattle.ptpm_network.specs.Events as machine
use Rattle.ptpm_network.specs.Events.{refusal}
use Rattle.ptpm_network.specs.Headline.{Headline}
use Rattle.ptpm_network.specs.Machine.{AreInTime, state_after, step}
use Rattle.ptpm_network.specs.Network.{Network}
use Rattle.ptpm_network.specs.RunningNetwork.{RunningNetwork}
use Rattle.ptpm_network.specs.Stands.{StandsAfter}
use Rattle.ptpm_network.specs.State.{NetworkState, initial_state}
use Rattle.ptpm_script.specs.EventLine.{verb_of}
use Rattle.ptpm_script.specs.NetworkText.{network_of}
use Rattle.ptpm_script.specs.NetworkValue.{NetworkValue}
use Rattle.ptpm_world.specs.declared.took.StepError.{StepError}
use Rattle.ptpm_world.specs.declared.took.Took.{Took}
use Rattle.ptpm_world.specs.declared.took.Took.TheVariants.{Answered}
use Rattle.ptpm_world.specs.declared.whole_script.EventLine.{EventLine}
use Rattle.ptpm_world.specs.Described.{described}
use Rattle.ptpm_text.specs.Lines.{whole_lines}
use Rattle.ptpm_world.specs.Placed.{Names, names_of, placed, placed_all}
use Rattle.ptpm_world.specs.Script.{network_text, scripted}
use Rattle.ptpm_world.specs.Took.{error_of}
use Rattle.ptpm_world.specs.Trace.{data_lines, event_text, report_lines}

-- ---- an event's line

-- the event appends a report to those of a session
abbrev pub IsReported : Network → NetworkState → machine.Event → Type 0
IsReported N w e = (s : ℕ) × ((s < N.sessions)
    × ((report : Report) × (((step N w e).session s).reports ≡ (w.session s).reports ++ report ∷ [])))

-- The line says what the machine makes of the event in this state: the reason to refuse it, if there is one. It says `Answered`
-- exactly if a report is appended, and it has the numbers of the frames that are made. It does not say late.
pub record TellsEvent (N : Network) (names : Names) (w : NetworkState) (e : EventLine) (line : List ℕ) : Type 0 where
  pub answer : Result Took StepError
  pub refused : result_err answer ≡ option_map error_of (refusal N w (placed names e.event))
  pub answered : (answer ≡ Ok Answered) ↔ IsReported N w (placed names e.event)
  pub line_is : line
      ≡ event_text e.number (verb_of e.event) answer false (length w.frames) (length (step N w (placed names e.event)).frames)

-- so does one line after another, each in the state that the events before it lead to
abbrev pub Tells : Network → Names → NetworkState → List EventLine → List ℕ → Type 0
Tells N names w [] text = text ≡ []
Tells N names w (e ∷ es) text = (line : List ℕ) × ((rest : List ℕ) × ((text ≡ line ++ rest)
    × (TellsEvent N names w e line × Tells N names (step N w (placed names e.event)) es rest)))

-- ---- a whole script

-- a network as the machine has it after these events, and the lines of these
pub record IsMachineTrace (N : Network) (names : Names) (events : List EventLine) (lines : List ℕ)
    (last : RunningNetwork) : Type 0 where
  pub stands : StandsAfter N (placed_all names events) last
  pub headline : Headline N (state_after N (placed_all names events)) last
  pub told : Tells N names (initial_state N) events lines

-- What a script prints at the end are the reports and data sets of a network. If none of the script's events delivers a frame
-- late, the headline holds for that network after these events. Their lines then say what the machine does.
pub record ShowsNetwork (input : List ℕ) : Type 0 where
  pub network : NetworkValue
  pub file : network_of (network_text (whole_lines input)) ≡ Ok network
  pub last : RunningNetwork
  pub shown : (scripted input).end ≡ Ok (report_lines (names_of network) last ++ data_lines (names_of network) last)
  pub machine : AreInTime (described network) (initial_state (described network)) (placed_all (names_of network) (scripted input).events)
      → IsMachineTrace (described network) (names_of network) (scripted input).events (scripted input).text last
