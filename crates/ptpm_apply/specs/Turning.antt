-- What an event makes of a change of several clocks.
use Rattle.std.specs.Prelude.{◌≡◌, ◌<◌, ◌+◌, ◌==◌, ◌&&◌, ◌||◌, not, nat_lt, min, ℕ, Bool, true, false, List, [], length, take, Option, None, Some, slice_get, slice_set, if◌then◌else◌}
use Rattle.std.specs.Option.{option_map}
use Rattle.ptpm_codec.specs.declared.message.Action.{Action}
use Rattle.ptpm_codec.specs.declared.message.Action.TheVariants as actions
use Rattle.ptpm_data.specs.Request.{RequestValue}
use Rattle.ptpm_journal.specs.declared.record.Ending.TheVariants as endings
use Rattle.ptpm_journal.specs.declared.record.Mark.TheVariants as marks
use Rattle.ptpm_journal.specs.declared.record.Note.TheVariants as notes
use Rattle.ptpm_journal.specs.declared.record.Outcome.TheVariants as outcomes
use Rattle.ptpm_journal.specs.declared.record.Record.TheVariants as records
use Rattle.ptpm_apply.specs.declared.action.Action.{Action as Due}
use Rattle.ptpm_apply.specs.declared.action.Action.TheVariants as does
use Rattle.ptpm_apply.specs.declared.action.Over.TheVariants as overs
use Rattle.ptpm_apply.specs.declared.action.Why.TheVariants as whys
use Rattle.ptpm_apply.specs.declared.choice.Choice.{Choice}
use Rattle.ptpm_apply.specs.declared.choice.Choice.TheVariants as choices
use Rattle.ptpm_apply.specs.declared.event.Event.{Event}
use Rattle.ptpm_apply.specs.declared.event.Event.TheVariants as events
use Rattle.ptpm_apply.specs.declared.heard.Heard.{Heard}
use Rattle.ptpm_apply.specs.declared.heard.Heard.TheVariants as hears
use Rattle.ptpm_apply.specs.declared.in_file.InFile.{InFile}
use Rattle.ptpm_apply.specs.declared.noted.Begun.{Begun}
use Rattle.ptpm_apply.specs.declared.planned.Planned.{Planned}
use Rattle.ptpm_apply.specs.declared.stage.Stage.{Stage}
use Rattle.ptpm_apply.specs.declared.stage.Stage.TheVariants as stages
use Rattle.ptpm_apply.specs.declared.stage.Then.{Then}
use Rattle.ptpm_apply.specs.declared.stage.Then.TheVariants as thens
use Rattle.ptpm_apply.specs.declared.standing.Standing.{Standing}
use Rattle.ptpm_apply.specs.declared.standing.Standing.TheVariants as standings
use Rattle.ptpm_apply.specs.Going.{BegunIn, ChangingAt, Failing, FailingAt, Going, IsIn, LatestTold}
use Rattle.ptpm_apply.specs.InFile.{in_file_of, session_in}
use Rattle.ptpm_apply.specs.Rollout.{RolloutValue, at, clock_in, clock_of, domain_of, ended, held, is_after, is_before, lane_of, last_domain, moved_by, noted_with}
use Rattle.ptpm_apply.specs.Standing.{standing_of}

-- ---- which action is handed out at a stage

abbrev pub action_of : RolloutValue → Stage → Due
action_of o stages.Fresh = does.Note
action_of o (stages.Looking lane) = does.Look lane
action_of o (stages.Settling step domain) = does.Settle (lane_of o step) (Some step) domain
action_of o (stages.Yielding lane domain changes) = does.Settle lane None domain
action_of o (stages.LettingGo lane) = does.LetGo lane
action_of o (stages.Noting next) = does.Note
action_of o (stages.Checking step) = does.Check step
action_of o (stages.Reading step) = does.Read step (domain_of o step)
action_of o (stages.Asking step) = does.Ask step
action_of o (stages.Answering step) = does.GoOn (lane_of o step)
action_of o (stages.Resting lane) = does.GoOn lane
action_of o (stages.Leaving lane) = does.Leave lane
action_of o (stages.Verifying step) = does.Read step (last_domain o step)
action_of o (stages.Over how) = does.Over how

-- ---- which events answer what is due

abbrev pub awaits_begin : Stage → Bool
awaits_begin stages.Fresh = true
awaits_begin _ = false

abbrev pub awaits_file : Stage → Bool
awaits_file (stages.Looking lane) = true
awaits_file _ = false

abbrev pub awaits_number : Stage → Bool
awaits_number (stages.Asking step) = true
awaits_number _ = false

abbrev pub awaits_check : Stage → Bool
awaits_check (stages.Checking step) = true
awaits_check _ = false

-- the answer to a request
abbrev pub awaits_answer : Stage → Bool
awaits_answer (stages.Settling step domain) = true
awaits_answer (stages.Yielding lane domain changes) = true
awaits_answer (stages.Answering step) = true
awaits_answer _ = false

-- the value of a member
abbrev pub awaits_value : Stage → Bool
awaits_value (stages.Reading step) = true
awaits_value (stages.Verifying step) = true
awaits_value _ = false

abbrev pub awaits_done : Stage → Bool
awaits_done (stages.LettingGo lane) = true
awaits_done (stages.Noting next) = true
awaits_done (stages.Resting lane) = true
awaits_done (stages.Leaving lane) = true
awaits_done _ = false

abbrev pub is_at_work : Stage → Bool
is_at_work stages.Fresh = false
is_at_work (stages.Over how) = false
is_at_work _ = true

abbrev pub answers : Stage → Event → Bool
answers s events.Begin = awaits_begin s
answers s (events.Found image) = awaits_file s
answers s (events.Begins number) = awaits_number s
answers s events.Unsent = awaits_answer s || awaits_number s
answers s (events.Value octets) = awaits_answer s || awaits_value s
answers s (events.Refused error) = awaits_answer s || awaits_value s
answers s events.Silent = awaits_answer s || awaits_value s || awaits_number s
answers s events.Done = awaits_done s
answers s (events.Checked passes) = awaits_check s
answers s events.NotWritten = is_at_work s
answers s events.Interrupted = is_at_work s

-- ---- what is heard

abbrev pub is_wanted_at : RolloutValue → Stage → List ℕ → Bool
is_wanted_at o (stages.Reading step) octets = is_before o step octets
is_wanted_at o (stages.Settling step domain) octets = is_after o step octets
is_wanted_at o (stages.Answering step) octets = is_after o step octets
is_wanted_at o (stages.Verifying step) octets = is_after o step octets
is_wanted_at o _ octets = false

abbrev pub is_wanted : RolloutValue → Event → Bool
is_wanted o (events.Value octets) = is_wanted_at o o.stage octets.now
is_wanted o _ = false

-- before a step: the value that the plan has there, and it is asked
abbrev pub HeardBefore : ℕ → RolloutValue → ℕ → Heard → RolloutValue → Type 0
HeardBefore time o step hears.Wanted v = v ≡ at o (stages.Asking step)
HeardBefore time o step hears.Other v = ChangingAt time o step v
HeardBefore time o step (hears.Refused error) v = ChangingAt time o step v
HeardBefore time o step hears.Silent v = FailingAt time o step v
HeardBefore time o step hears.Unsent v = FailingAt time o step v

-- after all steps: each member is read, and then the change is complete
abbrev pub HeardAfter : ℕ → RolloutValue → ℕ → Heard → RolloutValue → Type 0
HeardAfter time o step hears.Wanted v =
    v ≡ (if nat_lt (step + 1) (length o.steps) then at o (stages.Verifying (step + 1)) else ended time o endings.Complete None)
HeardAfter time o step hears.Other v = v ≡ ended time o endings.Changed (Some step)
HeardAfter time o step (hears.Refused error) v = v ≡ ended time o endings.Changed (Some step)
HeardAfter time o step hears.Silent v = v ≡ at o (stages.Over (overs.Open whys.Silent (Some step)))
HeardAfter time o step hears.Unsent v = v ≡ at o (stages.Over (overs.Open whys.Silent (Some step)))

abbrev pub kept_octets : List ℕ → List ℕ
kept_octets octets = take (min (length octets) 258) octets

-- its answer is noted: done exactly if it is the value that was asked
abbrev pub told : ℕ → RolloutValue → ℕ → Heard → List ℕ → RolloutValue
told time o step hears.Wanted octets =
    noted_with o (records.Note time (notes.Told step outcomes.Done 0)) (kept_octets octets) (thens.Rest step)
told time o step (hears.Refused error) octets =
    noted_with o (records.Note time (notes.Told step outcomes.Refused error)) (kept_octets octets) (thens.Rest step)
told time o step _ octets =
    noted_with o (records.Note time (notes.Told step outcomes.Answered 0)) (kept_octets octets) (thens.Rest step)

abbrev pub SeekingBy : Bool → ℕ → RolloutValue → ℕ → ℕ → RolloutValue → Type 0
SeekingBy true time o step moved v = FailingAt time o step v
SeekingBy false time o step moved v = v ≡ at o (stages.Settling step moved)

abbrev pub SeekingIn : Option ℕ → ℕ → RolloutValue → ℕ → ℕ → RolloutValue → Type 0
SeekingIn None time o step domain v = FailingAt time o step v
SeekingIn (Some moved) time o step domain v = SeekingBy (moved == domain) time o step moved v

-- a SET of DOMAIN without an answer is sent in the new domain too
abbrev pub Seeking : ℕ → RolloutValue → ℕ → ℕ → RolloutValue → Type 0
Seeking time o step domain v = SeekingIn (moved_by (slice_get o.steps step)) time o step domain v

-- to a step that was begun in this run
abbrev pub HeardAnswer : ℕ → RolloutValue → ℕ → Heard → List ℕ → RolloutValue → Type 0
HeardAnswer time o step hears.Unsent octets v = v ≡ noted_with o (records.Note time (notes.NotBegun step)) [] (thens.Fail step)
HeardAnswer time o step hears.Silent octets v = Seeking time o step (domain_of o step) v
HeardAnswer time o step hears.Wanted octets v = v ≡ told time o step hears.Wanted octets
HeardAnswer time o step hears.Other octets v = v ≡ told time o step hears.Other octets
HeardAnswer time o step (hears.Refused error) octets v = v ≡ told time o step (hears.Refused error) octets

-- to one that was sent again
abbrev pub HeardSettled : ℕ → RolloutValue → ℕ → ℕ → Heard → List ℕ → RolloutValue → Type 0
HeardSettled time o step domain hears.Unsent octets v = Seeking time o step domain v
HeardSettled time o step domain hears.Silent octets v = Seeking time o step domain v
HeardSettled time o step domain hears.Wanted octets v = v ≡ told time o step hears.Wanted octets
HeardSettled time o step domain hears.Other octets v = v ≡ told time o step hears.Other octets
HeardSettled time o step domain (hears.Refused error) octets v = v ≡ told time o step (hears.Refused error) octets

-- another program's request is answered: its clock may be changed
abbrev pub yielded : RolloutValue → ℕ → Bool → RolloutValue
yielded o lane true = record (held o lane) { is_changed = true; stage = stages.Resting lane }
yielded o lane false = at o (stages.Resting lane)

abbrev pub HeardOther : ℕ → RolloutValue → ℕ → Bool → Heard → RolloutValue → Type 0
HeardOther time o lane changes hears.Wanted v = v ≡ yielded o lane changes
HeardOther time o lane changes hears.Other v = v ≡ yielded o lane changes
HeardOther time o lane changes (hears.Refused error) v = v ≡ yielded o lane changes
HeardOther time o lane changes hears.Silent v = Failing time o whys.Silent lane None v
HeardOther time o lane changes hears.Unsent v = Failing time o whys.Silent lane None v

abbrev pub HeardAt : ℕ → RolloutValue → Stage → Heard → List ℕ → RolloutValue → Type 0
HeardAt time o (stages.Reading step) heard octets v = HeardBefore time o step heard v
HeardAt time o (stages.Verifying step) heard octets v = HeardAfter time o step heard v
HeardAt time o (stages.Answering step) heard octets v = HeardAnswer time o step heard octets v
HeardAt time o (stages.Settling step domain) heard octets v = HeardSettled time o step domain heard octets v
HeardAt time o (stages.Yielding lane domain changes) heard octets v = HeardOther time o lane changes heard v
HeardAt time o (stages.Asking step) heard octets v = FailingAt time o step v
HeardAt time o _ heard octets v = ⊥

abbrev pub is_heard : Stage → Bool
is_heard s = awaits_answer s || awaits_value s || awaits_number s

-- ---- what an earlier run left

abbrev pub LetGoIn : RolloutValue → ℕ → Option ℕ → Type 0
LetGoIn o lane None = (step : ℕ) → step < length o.steps → clock_of o step ≡ clock_in o lane
    → slice_get o.journal.marks step ≡ Some marks.LetGo → ⊥
LetGoIn o lane (Some step) = (step < length o.steps) × (clock_of o step ≡ clock_in o lane)
    × (slice_get o.journal.marks step ≡ Some marks.LetGo)

abbrev pub either : Option ℕ → Option ℕ → Option ℕ
either None other = other
either (Some step) other = Some step

-- the first step of a lane whose answer is noted, or is not
abbrev pub FirstIn : RolloutValue → ℕ → Bool → Option ℕ → Type 0
FirstIn o lane told None = (step : ℕ) → step < length o.steps → IsIn o lane told step → ⊥
FirstIn o lane told (Some step) = (step < length o.steps) × IsIn o lane told step
    × ((earlier : ℕ) → earlier < step → IsIn o lane told earlier → ⊥)

abbrev pub number_at : RolloutValue → Option ℕ → Option ℕ
number_at o None = None
number_at o (Some step) = slice_get o.numbers step

abbrev pub domain_at : RolloutValue → Option ℕ → ℕ
domain_at o None = 0
domain_at o (Some step) = domain_of o step

-- that of its first step without an answer, or else of its first one
pub record IsDomainIn (o : RolloutValue) (lane domain : ℕ) : Type 0 where
  pub untold : Option ℕ
  pub is_untold : FirstIn o lane false untold
  pub told : Option ℕ
  pub is_told : FirstIn o lane true told
  pub is : domain ≡ domain_at o (either untold told)

abbrev pub target_port : ℕ → ℕ
target_port port = if port == 0 then 65535 else port

abbrev pub begun_by : Option Planned → Option ℕ → Option Begun
begun_by None number = None
begun_by (Some p) None = None
begun_by (Some p) (Some number) = Some (record {
  number = number;
  request = record { action = actions.Set; id = p.id; port = target_port p.port; octets = p.after.items };
})

abbrev pub begun_of : RolloutValue → Option ℕ → Option Begun
begun_of o None = None
begun_of o (Some step) = begun_by (slice_get o.steps step) (slice_get o.numbers step)

-- what became of a step by the image of its session's file
unfoldable pub standing_at : RolloutValue → Option ℕ → Option ℕ → List ℕ → Standing
standing_at o step told image =
    standing_of (record { begun = begun_of o step; told = number_at o told }) (option_map in_file_of (session_in image))

abbrev pub is_get : Action → Bool
is_get actions.Get = true
is_get _ = false

abbrev pub request_changes : RequestValue → Bool
request_changes q = not (is_get q.action) && not (q.id == 0)

abbrev pub left_changes : Option RequestValue → Bool
left_changes None = false
left_changes (Some q) = request_changes q

abbrev pub file_changes : Option InFile → Bool
file_changes None = false
file_changes (Some f) = left_changes f.left

-- the request that a file has may change its clock
unfoldable pub may_change : List ℕ → Bool
may_change image = file_changes (option_map in_file_of (session_in image))

-- another program's request is settled in the domain in which its clock is asked next
abbrev pub Yields : RolloutValue → ℕ → Bool → RolloutValue → Type 0
Yields o lane changes v = (domain : ℕ) × IsDomainIn o lane domain × (v ≡ at o (stages.Yielding lane domain changes))

-- the file has the request of a step, or its number
abbrev pub is_of_step : Standing → Bool
is_of_step standings.UnderWay = true
is_of_step standings.NeverBegun = true
is_of_step standings.NumberTaken = true
is_of_step _ = false

-- what is left is seen to
abbrev pub SeesTo : ℕ → RolloutValue → ℕ → Standing → Option ℕ → Bool → RolloutValue → Type 0
SeesTo time o lane standings.UnderWay (Some step) changes v = v ≡ at o (stages.Settling step (domain_of o step))
SeesTo time o lane standings.NeverBegun (Some step) changes v =
    v ≡ noted_with o (records.Note time (notes.NotBegun step)) [] thens.GoOn
SeesTo time o lane standings.NumberTaken (Some step) changes v =
    v ≡ noted_with o (records.Note time (notes.NotBegun step)) [] (thens.Yield lane changes)
SeesTo time o lane standings.Told begun changes v = v ≡ at o (stages.LettingGo lane)
SeesTo time o lane standings.OfAnother begun changes v = Yields o lane changes v
SeesTo time o lane standings.Unknown begun changes v = Failing time o whys.Unknown lane begun v
SeesTo time o lane standings.NothingLeft begun changes v = Going time o v
SeesTo time o lane standings.UnderWay None changes v = Going time o v
SeesTo time o lane standings.NeverBegun None changes v = Going time o v
SeesTo time o lane standings.NumberTaken None changes v = Going time o v

-- or given up, and that is noted first; nothing is sent
abbrev pub GivesUp : ℕ → RolloutValue → ℕ → Standing → Option ℕ → RolloutValue → Type 0
GivesUp time o lane standings.NeverBegun (Some step) v = v ≡ noted_with o (records.Note time (notes.NotBegun step)) [] thens.GoOn
GivesUp time o lane standings.NumberTaken (Some step) v = v ≡ noted_with o (records.Note time (notes.NotBegun step)) [] thens.GoOn
GivesUp time o lane standings.UnderWay (Some step) v =
    v ≡ noted_with o (records.Note time (notes.LetGo step)) [] (thens.LetGo lane)
GivesUp time o lane _ (Some step) v = v ≡ noted_with o (records.Note time (notes.LetGo step)) [] thens.GoOn
GivesUp time o lane standings.UnderWay None v = v ≡ at o (stages.LettingGo lane)
GivesUp time o lane standings.Told None v = v ≡ at o (stages.LettingGo lane)
GivesUp time o lane _ None v = Going time o v

abbrev pub SeesBy : Choice → ℕ → RolloutValue → ℕ → Standing → Option ℕ → Bool → RolloutValue → Type 0
SeesBy choices.GiveUp time o lane standing begun changes v = GivesUp time o lane standing begun v
SeesBy choices.Stop time o lane standing begun changes v = SeesTo time o lane standing begun changes v
SeesBy choices.KeepGoing time o lane standing begun changes v = SeesTo time o lane standing begun changes v
SeesBy choices.Settle time o lane standing begun changes v = SeesTo time o lane standing begun changes v

-- this lane was looked at
abbrev pub seen_at : RolloutValue → ℕ → RolloutValue
seen_at o lane = record o { seen = lane + 1 }

pub record Found (time : ℕ) (o : RolloutValue) (lane : ℕ) (image : List ℕ) (v : RolloutValue) : Type 0 where
  pub begun : Option ℕ
  pub is_begun : BegunIn o lane begun
  pub let_go : Option ℕ
  pub is_let_go : LetGoIn o lane let_go
  pub told : Option ℕ
  pub is_told : LatestTold o lane told
  pub sees : SeesBy o.choice time (seen_at o lane) lane (standing_at o (either begun let_go) told image) begun (may_change image) v

abbrev pub FoundAt : ℕ → RolloutValue → Stage → List ℕ → RolloutValue → Type 0
FoundAt time o (stages.Looking lane) image v = Found time o lane image v
FoundAt time o _ image v = ⊥

-- ---- what else comes

abbrev pub numbered : RolloutValue → ℕ → ℕ → RolloutValue
numbered o step number = record o { numbers = if nat_lt step (length o.numbers) then slice_set o.numbers step number else o.numbers }

abbrev pub BegunAt : ℕ → RolloutValue → Stage → ℕ → RolloutValue → Type 0
BegunAt time o (stages.Asking step) number v =
    v ≡ noted_with (numbered o step number) (records.Note time (notes.Begun step number)) [] (thens.Send step)
BegunAt time o _ number v = ⊥

abbrev pub CheckedAt : ℕ → RolloutValue → Stage → Bool → RolloutValue → Type 0
CheckedAt time o (stages.Checking step) passes v =
    v ≡ (if passes then at o (stages.Reading step) else ended time o endings.Stopped (Some step))
CheckedAt time o _ passes v = ⊥

-- once a record is on the disk
abbrev pub Follows : ℕ → RolloutValue → Then → RolloutValue → Type 0
Follows time o (thens.Send step) v = v ≡ at o (stages.Answering step)
Follows time o (thens.Rest step) v = v ≡ at o (stages.Resting (lane_of o step))
Follows time o (thens.Fail step) v = FailingAt time o step v
Follows time o thens.GoOn v = Going time o v
Follows time o (thens.Yield lane changes) v = Yields o lane changes v
Follows time o (thens.LetGo lane) v = v ≡ at o (stages.LettingGo lane)
Follows time o (thens.End ending step) v = v ≡ at o (stages.Over (overs.Ended ending step))

abbrev pub DoneAt : ℕ → RolloutValue → Stage → RolloutValue → Type 0
DoneAt time o (stages.Noting next) v = Follows time o next v
DoneAt time o (stages.LettingGo lane) v = Going time o v
DoneAt time o (stages.Resting lane) v = Going time o v
DoneAt time o (stages.Leaving lane) v = Going time o v
DoneAt time o _ v = ⊥

abbrev pub heard_value : Bool → Heard
heard_value true = hears.Wanted
heard_value false = hears.Other

-- the value of a step's member is waited for, and compared with one of the plan
abbrev pub compares : Stage → Bool
compares (stages.Settling step domain) = true
compares (stages.Answering step) = true
compares s = awaits_value s

-- a value comes, which is compared
abbrev pub has_value : Stage → Event → Bool
has_value s (events.Value octets) = compares s
has_value s _ = false

-- what an event makes of it
abbrev pub Turned : ℕ → RolloutValue → Event → RolloutValue → Type 0
Turned time o events.Begin v = Going time o v
Turned time o (events.Found image) v = FoundAt time o o.stage image.now v
Turned time o (events.Begins number) v = BegunAt time o o.stage number v
Turned time o events.Unsent v = HeardAt time o o.stage hears.Unsent [] v
Turned time o (events.Value octets) v = HeardAt time o o.stage (heard_value (is_wanted_at o o.stage octets.now)) octets.now v
Turned time o (events.Refused error) v = HeardAt time o o.stage (hears.Refused error) [] v
Turned time o events.Silent v = HeardAt time o o.stage hears.Silent [] v
Turned time o events.Done v = DoneAt time o o.stage v
Turned time o (events.Checked passes) v = CheckedAt time o o.stage passes v
Turned time o events.NotWritten v = v ≡ at o (stages.Over (overs.Open whys.NotWritten None))
Turned time o events.Interrupted v = v ≡ at o (stages.Over (overs.Open whys.Interrupted None))
