-- What a schedule is of a script: the network of its file, and events that happen in it, the script's own among them.
use Rattle.std.specs.Prelude.{◌≡◌, ◌≢◌, ◌≤◌, ◌⊎◌, ℕ, ◌+◌, ◌==◌, Bool, true, false, List, [], ◌∷◌, ◌++◌, None, Ok, Err, Result, Option, Some, codes, count_by, flat_map, if◌then◌else◌, is_none, length, map}
use Rattle.std.specs.Io.KnownBytes.{Appends, Keeps}
use Rattle.std.specs.List.{list_any}
use Rattle.std.specs.Option.{option_or}
use Rattle.std.specs.Result.{result_err}
use Rattle.ptpm_network.specs.Events as machine
use Rattle.ptpm_network.specs.Events.{refusal}
use Rattle.ptpm_network.specs.Machine.{AreInTime, state_after, taken}
use Rattle.ptpm_network.specs.Network.{Network}
use Rattle.ptpm_network.specs.State.{initial_state}
use Rattle.ptpm_schedule.specs.EventText.{event_text}
use Rattle.ptpm_script.specs.declared.event.Event.{Event}
use Rattle.ptpm_script.specs.declared.event.Event.TheVariants as events
use Rattle.ptpm_script.specs.declared.event.EventError.TheVariants.{UnknownWord}
use Rattle.ptpm_script.specs.NetworkText.{network_of}
use Rattle.ptpm_script.specs.NetworkValue.{NetworkValue}
use Rattle.ptpm_world.specs.declared.script_error.ScriptError.{ScriptError}
use Rattle.ptpm_world.specs.declared.script_error.ScriptError.TheVariants.{BadLine, ReadFault, TooManyLines, WriteFault}
use Rattle.ptpm_world.specs.declared.whole_script.EventLine.{EventLine}
use Rattle.ptpm_world.specs.Described.{described}
use Rattle.ptpm_text.specs.Lines.{whole_lines}
use Rattle.ptpm_world.specs.Placed.{Names, names_of, placed}
use Rattle.ptpm_world.specs.Script.{network_text, scripted}
use Rattle.ptpm_world.specs.ScriptError.{is_outside}

-- the lines of events, each with its end
abbrev pub event_lines : List Event → List ℕ
event_lines events = flat_map (λ e. event_text e ++ (10 ∷ [])) events

-- From the start of a network on these events happen: none is refused when it comes, and none delivers a frame late.
pub record Happen (N : Network) (events : List machine.Event) : Type 0 where
  pub taken : taken N (initial_state N) events ≡ events
  pub in_time : AreInTime N (initial_state N) events

-- A writer took the text of a network, the divider, and the lines of events that happen in that network.
pub record IsScheduled (before after : Option (List ℕ)) : Type 0 where
  pub text : List ℕ
  pub network : NetworkValue
  pub of_text : network_of text ≡ Ok network
  pub events : List Event
  pub happen : Happen (described network) (map (placed (names_of network)) events)
  pub written : Appends before after ((text ++ codes "%%" ++ (10 ∷ [])) ++ event_lines events)

-- ---- the events of a script

-- a session is asked for it: to begin a request, for further attempts, or to be retuned
abbrev pub is_asked : Event → Bool
is_asked (events.Begin session ask) = true
is_asked (events.Resume session attempts) = true
is_asked (events.Retune session domain) = true
is_asked event = false

-- the network machine refuses an event after these
abbrev pub IsRefusedAfter : Network → List machine.Event → machine.Event → Type 0
IsRefusedAfter N past e = is_none (refusal N (state_after N past) e) ≡ false

-- Among events that come after others, these keep their order, and no further ones come that a session is asked for. Each comes
-- after what follows of those before it; or it is refused there, and left out.
abbrev pub AreAsked : Network → Names → List machine.Event → List Event → List Event → Type 0
AreAsked N names past [] all = list_any is_asked all ≡ false
AreAsked N names past (e ∷ es) all =
    (front : List Event)
    × ((rest : List Event)
    × ((list_any is_asked front ≡ false)
    × (((all ≡ front ++ (e ∷ rest)) × AreAsked N names (past ++ map (placed names) (front ++ (e ∷ []))) es rest)
    ⊎ ((all ≡ front ++ rest)
    × (IsRefusedAfter N (past ++ map (placed names) front) (placed names e)
    × AreAsked N names (past ++ map (placed names) front) es rest)))))

-- ---- faults

-- of events, that the first is an unknown word for which no session is asked
abbrev pub unasked : List EventLine → Option ScriptError
unasked [] = None
unasked (line ∷ lines) = if is_asked line.event then unasked lines else Some (BadLine line.number UnknownWord)

-- the first fault of a script that is to be scheduled
abbrev pub fault_in : List ℕ → Option ScriptError
fault_in input = option_or (result_err (scripted input).end) (unasked (scripted input).events)

-- ---- the whole

-- A writer took the network file of a script, the divider, and the lines of events that happen in its network, one after another.
pub record IsBegun (input : List ℕ) (before after : Option (List ℕ)) : Type 0 where
  pub network : NetworkValue
  pub of_file : network_of (network_text (whole_lines input)) ≡ Ok network
  pub events : List Event
  pub happen : taken (described network) (initial_state (described network)) (map (placed (names_of network)) events)
      ≡ map (placed (names_of network)) events
  pub written : Appends before after ((network_text (whole_lines input) ++ codes "%%" ++ (10 ∷ [])) ++ event_lines events)

-- how many lines that are: each line of the file ends with a line feed
abbrev pub lines_of : List ℕ → List Event → ℕ
lines_of input events = count_by (λ octet. octet == 10) (network_text (whole_lines input)) + 1 + length events

-- A schedule of a script without a fault: the events are in time, and the script's are those that are asked for among them.
pub record IsScheduleOf (input : List ℕ) (before after : Option (List ℕ)) : Type 0 where
  pub faultless : fault_in input ≡ None
  pub begun : IsBegun input before after
  pub in_time : AreInTime (described begun.network) (initial_state (described begun.network)) (map (placed (names_of begun.network)) begun.events)
  pub asked : AreAsked (described begun.network) (names_of begun.network) [] (map (λ line. line.event) (scripted input).events) begun.events

-- over 2,000,000 lines would have been written, after as many
pub record IsFull (input : List ℕ) (before after : Option (List ℕ)) : Type 0 where
  pub begun : IsBegun input before after
  pub full : 2000000 ≤ lines_of input begun.events

-- It ended early: by the script's fault, before anything was written; by too many lines of the schedule; or since reading, writing
-- or memory failed. If writing did not fail, what was written is nothing or the beginning of a schedule; if reading did, nothing.
pub record HasEnded (input : List ℕ) (before after : Option (List ℕ)) (e : ScriptError) : Type 0 where
  pub fault : is_outside e ≡ false
      → ((fault_in input ≡ Some e) × Keeps before after) ⊎ ((e ≡ TooManyLines) × IsFull input before after)
  pub unread : e ≡ ReadFault → Keeps before after
  pub begun : e ≢ WriteFault → Keeps before after ⊎ IsBegun input before after

abbrev pub HasScheduled : {A : Type 0} → List ℕ → Option (List ℕ) → Option (List ℕ) → Result A ScriptError → Type 0
HasScheduled input before after (Ok done) = IsScheduleOf input before after
HasScheduled input before after (Err e) = HasEnded input before after e
