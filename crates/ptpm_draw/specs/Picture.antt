-- What a picture shows of the events of a script (this project's profile).
use Rattle.std.specs.Prelude.{◌≡◌, ℕ, ◌-◌, ◌==◌, Bool, false, true, if◌then◌else◌, List, [], ◌∷◌, ◌++◌, drop, length, map, slice_set, option_to_list, Option, Some, None, Result, Ok, Err}
use Rattle.std.specs.List.{list_any}
use Rattle.ptpm_agent.specs.declared.verdict.Verdict.{Verdict}
use Rattle.ptpm_agent.specs.declared.verdict.Verdict.TheVariants as verdicts
use Rattle.ptpm_codec.specs.declared.error.DecodeError.{DecodeError}
use Rattle.ptpm_codec.specs.declared.message.Message.{Message}
use Rattle.ptpm_codec.specs.Message.{action_of, error_of, id_of}
use Rattle.ptpm_codec.specs.Reading.{reading}
use Rattle.ptpm_draw.specs.Changes.{change_at}
use Rattle.ptpm_draw.specs.Party.{party_at, party_of}
use Rattle.ptpm_draw.specs.declared.changes.Change.{Change}
use Rattle.ptpm_draw.specs.declared.outcome.EventOutcome.{EventOutcome}
use Rattle.ptpm_draw.specs.declared.outcome.EventOutcome.TheVariants as outcomes
use Rattle.ptpm_draw.specs.declared.party.Party.{Party}
use Rattle.ptpm_draw.specs.declared.picture.Message as drawn_message
use Rattle.ptpm_draw.specs.declared.picture.Picture.{Picture}
use Rattle.ptpm_draw.specs.declared.picture.EventRow.{EventRow}
use Rattle.ptpm_draw.specs.declared.picture.Says.{Says}
use Rattle.ptpm_draw.specs.declared.picture.Way.{Way}
use Rattle.ptpm_draw.specs.declared.picture.Way.TheVariants as ways
use Rattle.ptpm_network.specs.Network.{Network}
use Rattle.ptpm_network.specs.RunningNetwork.{Held, RunningNetwork}
use Rattle.ptpm_script.specs.declared.event.Event.{Event}
use Rattle.ptpm_script.specs.declared.event.Event.TheVariants as events
use Rattle.ptpm_script.specs.NetworkValue.{NetworkValue}
use Rattle.ptpm_world.specs.declared.took.StepError.{StepError}
use Rattle.ptpm_world.specs.declared.took.Took.{Took}
use Rattle.ptpm_world.specs.declared.took.Took.TheVariants as took
use Rattle.ptpm_world.specs.declared.whole_script.EventLine.{EventLine}
use Rattle.ptpm_world.specs.declared.world.World.{World}
use Rattle.ptpm_world.specs.Described.{described}
use Rattle.ptpm_world.specs.Placed.{Names, names_in, names_of, placed}
use Rattle.ptpm_world.specs.Running.{IsOf}
use Rattle.ptpm_world.specs.Script.{started}
use Rattle.ptpm_world.specs.Took.{after, answer}
use Rattle.ptpm_world.specs.Trace.{is_late_event}

-- ---- an event and a message

-- a frame that reached its end is an arrow, and so is a stranger's datagram; every other event is a mark
abbrev pub way_of : Event → Result Took StepError → Way
way_of (events.Deliver frame) (Ok did) = ways.Arrow frame
way_of (events.Stranger clock port octets) (Ok did) = ways.FromEdge
way_of event answer = ways.Mark

-- what is written at an arrow of a message
abbrev pub says_of : Message → Says
says_of m = record { action = action_of m.body; id = id_of m.body; number = m.number; error = error_of m.body }

-- nothing if the datagram is no management message
abbrev pub says_in : Result Message DecodeError → Option Says
says_in (Ok m) = Some (says_of m)
says_in (Err refusal) = None

-- what a clock's verdict comes to, whether it sent messages or none
abbrev pub decided : Verdict → Bool → EventOutcome
decided verdicts.AnsweredNew has_sent = outcomes.CarriedOut
decided verdicts.AnsweredRepeat has_sent = outcomes.AnsweredAgain
decided verdicts.AnsweredUnnumbered has_sent = outcomes.Answered
decided verdict has_sent = if has_sent then outcomes.PassedOn else outcomes.Dropped verdict

-- what became of an event
abbrev pub outcome_of : Result Took StepError → Bool → EventOutcome
outcome_of (Ok took.Fine) has_sent = outcomes.Done
outcome_of (Ok (took.AtClock verdict)) has_sent = decided verdict has_sent
outcome_of (Ok took.Answered) has_sent = outcomes.Reported
outcome_of (Ok (took.Ignored reason)) has_sent = outcomes.Ignored reason
outcome_of (Err error) has_sent = outcomes.Refused error

-- ---- what an event comes to, in this state of the network

-- an event's row, at this party: what the trace says of it, and how it is drawn
abbrev pub row_of : Network → Names → RunningNetwork → Option Party → EventLine → EventRow
row_of N names r at line =
    let event = placed names line.event in
    record {
      line = line.number;
      at = at;
      way = way_of line.event (answer N r event);
      answer = answer N r event;
      is_late = is_late_event r event;
      before = length r.frames;
      after = length (after N r event).frames;
    }

-- a frame that this party sent
abbrev pub message_of : Option Party → Held → drawn_message.Message
message_of from h = record { from = from; to = party_of h.end; says = says_in (reading h.octets) }

-- what is drawn
pub record Drawn : Type 0 where
  pub rows : List EventRow
  pub messages : List drawn_message.Message
  pub changes : List Change

-- What is drawn of an event that leads here: its row, the messages of the frames that it made, and what it changed. The party at
-- which it happens sent the messages.
abbrev pub drawn_by : Network → Names → RunningNetwork → RunningNetwork → EventLine → Drawn
drawn_by N names r next line =
    let at = party_at names r.frames line.event in
    record {
      rows = row_of N names r at line ∷ [];
      messages = map (message_of at) (drop (length r.frames) next.frames);
      changes = option_to_list (change_at line.number at r next);
    }

-- ---- what all events come to

abbrev pub nothing_drawn : Drawn
nothing_drawn = record { rows = []; messages = []; changes = [] }

-- one after the other
abbrev pub then_drawn : Drawn → Drawn → Drawn
then_drawn a b = record { rows = a.rows ++ b.rows; messages = a.messages ++ b.messages; changes = a.changes ++ b.changes }

-- each event where those before it lead
abbrev pub drawn : Network → Names → RunningNetwork → List EventLine → Drawn
drawn N names r [] = nothing_drawn
drawn N names r (line ∷ lines) =
    let next = after N r (placed names line.event) in
    then_drawn (drawn_by N names r next line) (drawn N names next lines)

-- the events of a script in the network of its file, from its start on
abbrev pub picture_of : NetworkValue → List EventLine → Drawn
picture_of n lines = drawn (described n) (names_of n) (started n) lines

abbrev pub drawn_in : Picture → Drawn
drawn_in p = record { rows = p.rows.items; messages = p.messages.items; changes = p.changes.items }

-- the world is one of this network
pub record IsWorldOf (n : NetworkValue) (w : World) : Type 0 where
  pub network : IsOf (described n) w
  pub names : names_in w ≡ names_of n

-- ---- frames that an event delivers

abbrev pub is_arrow_of : ℕ → Way → Bool
is_arrow_of number (ways.Arrow frame) = frame == number
is_arrow_of number ways.Mark = false
is_arrow_of number ways.FromEdge = false

-- a row is the arrow of the frame of this number
abbrev pub is_delivered : List EventRow → ℕ → Bool
is_delivered rows number = list_any (λ row. is_arrow_of number row.way) rows

-- the flags of frames 1, 2, 3 and so on: the one of this number is set, if it is there
abbrev pub marked : ℕ → List Bool → List Bool
marked number flags = if number == 0 then flags else slice_set flags (number - 1) true

abbrev pub marked_by : Way → List Bool → List Bool
marked_by (ways.Arrow frame) flags = marked frame flags
marked_by ways.Mark flags = flags
marked_by ways.FromEdge flags = flags
