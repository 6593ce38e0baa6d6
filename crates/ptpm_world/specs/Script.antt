-- What the lines of a script come to (this project's profile): a network file, a line `%%`, and events, one a line.
use Rattle.std.specs.Prelude.{◌≡◌, ◌<◌, ◌⊎◌, ℕ, ◌+◌, ◌==◌, length, not, slice_get, Bool, true, false, bytes_eq, codes, find, List, [], ◌∷◌, ◌++◌, Option, Some, None, Result, Ok, Err, if◌then◌else◌}
use Rattle.std.specs.Io.KnownBytes.{Appends}
use Rattle.std.specs.List.{AllByRecursion}
use Rattle.ptpm_agent.specs.Laws.{initial_clock_state}
use Rattle.ptpm_manager.specs.Session.{SessionValue, fresh as fresh_session}
use Rattle.ptpm_network.specs.Events.{IsInRange}
use Rattle.ptpm_network.specs.Network.{Network}
use Rattle.ptpm_network.specs.RunningNetwork.{RunningNetwork}
use Rattle.ptpm_script.specs.declared.event.Event.{Event}
use Rattle.ptpm_script.specs.declared.event.EventError.{EventError}
use Rattle.ptpm_script.specs.declared.net_error.NetError.{NetError}
use Rattle.ptpm_script.specs.EventLine.{reading}
use Rattle.ptpm_script.specs.NetworkText.{network_of}
use Rattle.ptpm_script.specs.declared.network.NetworkSession.{NetworkSession}
use Rattle.ptpm_script.specs.NetworkValue.{NetworkValue, first_sets}
use Rattle.ptpm_text.specs.Words.{space}
use Rattle.ptpm_world.specs.declared.script_error.ScriptError.{ScriptError}
use Rattle.ptpm_world.specs.declared.script_error.ScriptError.TheVariants.{BadLine, BadNetwork}
use Rattle.ptpm_world.specs.declared.whole_script.EventLine.{EventLine}
use Rattle.ptpm_world.specs.Described.{clock_at, described, described_session}
use Rattle.ptpm_text.specs.Lines.{whole_lines}
use Rattle.ptpm_world.specs.Placed.{Names, names_of, placed, placed_all}
use Rattle.ptpm_world.specs.Running.{no_session}
use Rattle.ptpm_world.specs.ScriptError.{is_outside, line_fault}
use Rattle.ptpm_world.specs.Took.{after}
use Rattle.ptpm_world.specs.Trace.{data_lines, event_line, line_feed, report_lines}
use Rattle.ptpm_world.specs.Writing.{TakesFirst}

-- ---- the network file

abbrev pub is_divider : List ℕ → Bool
is_divider line = bytes_eq line (codes "%%")

-- the lines before the divider, each followed by a line feed; all lines if there is none
abbrev pub network_text : List (List ℕ × List ℕ) → List ℕ
network_text [] = []
network_text (line ∷ lines) = if is_divider line.0 then [] else line.0 ++ line_feed ++ network_text lines

-- What is kept of a text: all of it, or, if it is too long for a network file, another text that is too long.
abbrev pub StandsFor : List ℕ → List ℕ → Type 0
StandsFor kept whole = (kept ≡ whole) ⊎ ((262144 < length kept) × (262144 < length whole))

-- ---- a line after it

-- the first octet that is no space, if there is one, is `#`
abbrev pub begins_comment : Option ℕ → Bool
begins_comment None = true
begins_comment (Some octet) = octet == 35

-- a comment, or a line without words
abbrev pub is_skipped : List ℕ → Bool
is_skipped line = begins_comment (find (λ octet. not (octet == space)) line)

-- by its number after the divider, and what it is read as
abbrev pub read_as : ℕ → Result Event EventError → Result (Option Event) ScriptError
read_as place (Ok event) = Ok (Some event)
read_as place (Err error) = Err (BadLine place error)

-- its event, none if it is skipped, or that it is no event
abbrev pub event_of : ℕ → List ℕ → Result (Option Event) ScriptError
event_of place line = if is_skipped line then Ok None else read_as place (reading line)

-- ---- what lines come to

-- Their events, whether these are refused or not, and the lines of these, one after another. After them where they lead, or the
-- first fault, in the order in which lines are read.
pub record Played (A : Type 0) : Type 0 where
  pub events : List EventLine
  pub text : List ℕ
  pub end : Result A ScriptError

abbrev pub ends : {A : Type 0} → Result A ScriptError → Played A
ends end = record { events = []; text = []; end = end }

abbrev pub behind : {A : Type 0} → List EventLine → List ℕ → Played A → Played A
behind events text p = record { events = events ++ p.events; text = text ++ p.text; end = p.end }

-- a line's own fault ends them
abbrev pub unless_fault : {A : Type 0} → Option ScriptError → Played A → Played A
unless_fault None p = p
unless_fault (Some fault) p = ends (Err fault)

-- a line, and what the others come to from where its event leads
abbrev pub played_by : Result (Option Event) ScriptError
    → Network
    → Names
    → RunningNetwork
    → ℕ
    → (RunningNetwork → Played RunningNetwork)
    → Played RunningNetwork
played_by (Ok None) N names r place others = others r
played_by (Ok (Some event)) N names r place others =
    behind (record { number = place; event = event } ∷ []) (event_line N names r place event) (others (after N r (placed names event)))
played_by (Err fault) N names r place others = ends (Err fault)

-- lines of events from this one on, by its numbers in all that is read and after the divider
abbrev pub played : Network
    → Names
    → RunningNetwork
    → ℕ
    → ℕ
    → List (List ℕ × List ℕ)
    → Played RunningNetwork
played N names r number place [] = ends (Ok r)
played N names r number place (line ∷ lines) =
    unless_fault (line_fault number line)
    (played_by (event_of place line.0) N names r place (λ next. played N names next (number + 1) (place + 1) lines))

-- ---- the network as it starts

-- past the last session, something that no definition looks at
abbrev pub started_session : NetworkValue → Option NetworkSession → SessionValue
started_session n None = no_session
started_session n (Some s) = fresh_session (described_session n s).setup s.domain

-- each clock with the data sets that it starts with, each session with nothing begun, and no frames
abbrev pub started : NetworkValue → RunningNetwork
started n = record {
  clock = λ c. initial_clock_state (first_sets (clock_at n c));
  session = λ s. started_session n (slice_get n.sessions s);
  reports = λ s. [];
  frames = [];
}

-- ---- the whole

-- after the lines of the events the lines of the reports and of the data sets, as the network is where the events lead
abbrev pub closing : Names → Result RunningNetwork ScriptError → Result (List ℕ) ScriptError
closing names (Ok r) = Ok (report_lines names r ++ data_lines names r)
closing names (Err fault) = Err fault

abbrev pub closed : Names → Played RunningNetwork → Played (List ℕ)
closed names p = record { events = p.events; text = p.text; end = closing names p.end }

-- lines of events, if the file before them is this network, from its start on; the fault that it has is met before them
abbrev pub in_network : Result NetworkValue NetError → ℕ → List (List ℕ × List ℕ) → Played (List ℕ)
in_network (Ok n) number lines = closed (names_of n) (played (described n) (names_of n) (started n) number 1 lines)
in_network (Err error) number lines = ends (Err (BadNetwork error))

-- lines of a network file from this one on, and what those after the divider come to
abbrev pub from_file : (ℕ → List (List ℕ × List ℕ) → Played (List ℕ))
    → ℕ
    → List (List ℕ × List ℕ)
    → Played (List ℕ)
from_file others number [] = others number []
from_file others number (line ∷ lines) =
    unless_fault (line_fault number line)
    (if is_divider line.0 then others (number + 1) lines else from_file others (number + 1) lines)

-- a script, whose first line has this number
abbrev pub scripted_from : ℕ → List ℕ → Played (List ℕ)
scripted_from number octets =
    from_file (in_network (network_of (network_text (whole_lines octets)))) number (whole_lines octets)

abbrev pub scripted : List ℕ → Played (List ℕ)
scripted input = scripted_from 1 input

-- the lines of the reports and of the data sets, if there is no fault
abbrev pub last_lines : Result (List ℕ) ScriptError → List ℕ
last_lines (Ok last) = last
last_lines (Err fault) = []

-- the whole trace of a script: the lines of its events, and then these
abbrev pub trace_of : List ℕ → List ℕ
trace_of input = (scripted input).text ++ last_lines (scripted input).end

-- A script prints this text. The lines before the divider are a network file, and each line after it is an event or is skipped.
-- The text is the trace of these events in that network, from its start on.
abbrev pub Prints : List ℕ → List ℕ → Type 0
Prints input text = (last : List ℕ) × (((scripted input).end ≡ Ok last) × (text ≡ (scripted input).text ++ last))

-- ---- what a call does that plays lines

-- It ends early. Of the whole text a beginning was written. If neither reading, writing nor memory failed, it ends with the lines'
-- first fault, and the lines of all events before that were written.
abbrev pub HasStopped : {A : Type 0}
    → Played A
    → List ℕ
    → Option (List ℕ)
    → Option (List ℕ)
    → ScriptError
    → Type 0
HasStopped p whole before after e =
    TakesFirst whole before after × (is_outside e ≡ false → (p.end ≡ Err e) × Appends before after p.text)

-- the lines of all events were written, and they lead here; each is one that a program can hand in
abbrev pub HasPlayed : {A : Type 0}
    → Names
    → Played RunningNetwork
    → RunningNetwork
    → Option (List ℕ)
    → Option (List ℕ)
    → Result A ScriptError
    → Type 0
HasPlayed names p r before after (Ok done) =
    (p.end ≡ Ok r) × (Appends before after p.text × AllByRecursion IsInRange (placed_all names p.events))
HasPlayed names p r before after (Err e) = HasStopped p p.text before after e

-- a script was run: it has no fault, and the text that it prints was written
abbrev pub HasPrinted : {A : Type 0}
    → List ℕ
    → Option (List ℕ)
    → Option (List ℕ)
    → Result A ScriptError
    → Type 0
HasPrinted input before after (Ok done) = (text : List ℕ) × (Prints input text × Appends before after text)
HasPrinted input before after (Err e) = HasStopped (scripted input) (trace_of input) before after e
