-- What a change of several clocks is, as its run knows it.
use Rattle.std.specs.Prelude.{◌≡◌, ◌≤◌, ◌<◌, ◌+◌, ◌==◌, ◌&&◌, ℕ, Bool, true, false, List, [], ◌∷◌, ◌++◌, length, take, Option, None, Some, slice_get, slice_set, if◌then◌else◌}
use Rattle.std.specs.Option.{option_map}
use Rattle.ptpm_journal.specs.declared.record.Ending.{Ending}
use Rattle.ptpm_journal.specs.declared.record.Note.TheVariants as notes
use Rattle.ptpm_journal.specs.declared.record.Record.{Record}
use Rattle.ptpm_journal.specs.declared.record.Record.TheVariants as records
use Rattle.ptpm_journal.specs.Frames.{counted, crc_after, framed}
use Rattle.ptpm_journal.specs.Journal.{MayTake, State, goes_on, may_end, taken}
use Rattle.ptpm_journal.specs.Octets.{body_of}
use Rattle.ptpm_journal.specs.State.{state_of}
use Rattle.ptpm_journal.specs.Turns.{lead_of}
use Rattle.ptpm_apply.specs.Value.{is_same}
use Rattle.ptpm_apply.specs.declared.action.Over.TheVariants as overs
use Rattle.ptpm_apply.specs.declared.action.Why.TheVariants as whys
use Rattle.ptpm_apply.specs.declared.choice.Choice.{Choice}
use Rattle.ptpm_apply.specs.declared.lane.Lane.{Lane}
use Rattle.ptpm_apply.specs.declared.planned.Planned.{Planned}
use Rattle.ptpm_apply.specs.declared.rollout.Rollout.TheInside.{Inside}
use Rattle.ptpm_apply.specs.declared.stage.Stage.{Stage}
use Rattle.ptpm_apply.specs.declared.stage.Stage.TheVariants as stages
use Rattle.ptpm_apply.specs.declared.stage.Then.{Then}
use Rattle.ptpm_apply.specs.declared.stage.Then.TheVariants as thens

pub record RolloutValue : Type 0 where
  pub choice : Choice
  -- what its journal says, with all that is noted
  pub journal : State
  pub crc : ℕ
  pub steps : List Planned
  -- of each step that was begun, the latest sequenceId
  pub numbers : List ℕ
  -- its clocks
  pub lanes : List Lane
  -- how many lanes were looked at
  pub seen : ℕ
  -- whether another program's request has changed a clock
  pub is_changed : Bool
  pub stage : Stage
  -- the octets of the latest record
  pub noted : List ℕ

abbrev pub rollout_value : Inside → RolloutValue
rollout_value i = record {
  choice = i.choice;
  journal = state_of i.journal;
  crc = i.journal.crc;
  steps = i.steps.items;
  numbers = i.numbers.items;
  lanes = i.lanes.items;
  seen = i.seen;
  is_changed = i.is_changed;
  stage = i.stage;
  noted = take i.size i.room.items;
}

-- ---- what holds at a stage

-- a run may note that it is begun
abbrev pub CanBegin : State → ℕ → Type 0
CanBegin s step = MayTake s (records.Note 0 (notes.Begun step 0))

-- it is begun, and has no answer yet
abbrev pub IsBegun : State → ℕ → Type 0
IsBegun s step = MayTake s (records.Note 0 (notes.NotBegun step))

abbrev pub FitsThen : State → Then → Type 0
FitsThen s (thens.Send step) = IsBegun s step
FitsThen s _ = Unit {0}

-- with this many lanes and steps
abbrev pub Fits : State → ℕ → ℕ → Stage → Type 0
Fits s lanes steps stages.Fresh = Unit {0}
Fits s lanes steps (stages.Looking lane) = lane < lanes
Fits s lanes steps (stages.Settling step domain) = IsBegun s step
Fits s lanes steps (stages.Yielding lane domain changes) = Unit {0}
Fits s lanes steps (stages.LettingGo lane) = Unit {0}
Fits s lanes steps (stages.Noting next) = FitsThen s next
Fits s lanes steps (stages.Checking step) = CanBegin s step
Fits s lanes steps (stages.Reading step) = CanBegin s step
Fits s lanes steps (stages.Asking step) = CanBegin s step
Fits s lanes steps (stages.Answering step) = IsBegun s step
Fits s lanes steps (stages.Resting lane) = Unit {0}
Fits s lanes steps (stages.Leaving lane) = Unit {0}
Fits s lanes steps (stages.Verifying step) = step < steps
Fits s lanes steps (stages.Over how) = Unit {0}

-- what holds of every change
pub record IsRollout (i : Inside) : Type 0 where
  pub few_steps : length i.steps.items ≤ 65535
  pub few_lanes : length i.lanes.items ≤ 65535
  pub room : length i.room.items ≡ 8221
  pub size : i.size ≤ 8221
  pub fits : Fits (state_of i.journal) (length i.lanes.items) (length i.steps.items) i.stage

-- ---- its parts

abbrev pub clock_of : RolloutValue → ℕ → Option ℕ
clock_of o step = option_map (λ (p : Planned). p.clock) (slice_get o.steps step)

abbrev pub clock_in : RolloutValue → ℕ → Option ℕ
clock_in o lane = option_map (λ (l : Lane). l.clock) (slice_get o.lanes lane)

-- the place of a clock, counted from this one on; 0 if there is none such
abbrev pub place_from : ℕ → List Lane → ℕ → ℕ
place_from place [] clock = 0
place_from place (l ∷ ls) clock = if l.clock == clock then place else place_from (place + 1) ls clock

abbrev pub place_in : List Lane → Option ℕ → ℕ
place_in lanes None = 0
place_in lanes (Some clock) = place_from 0 lanes clock

-- the place of the clock of a step among the lanes
unfoldable pub lane_of : RolloutValue → ℕ → ℕ
lane_of o step = place_in o.lanes (clock_of o step)

abbrev pub planned_domain : Option Planned → ℕ
planned_domain None = 0
planned_domain (Some p) = p.domain

abbrev pub domain_of : RolloutValue → ℕ → ℕ
domain_of o step = planned_domain (slice_get o.steps step)

abbrev pub is_held_lane : Option Lane → Bool
is_held_lane None = false
is_held_lane (Some l) = l.is_held

-- no further step is begun at the clock of a step
abbrev pub is_held_at : RolloutValue → ℕ → Bool
is_held_at o step = is_held_lane (slice_get o.lanes (lane_of o step))

-- a SET of DOMAIN moves its clock to another domain
abbrev pub moved_to : Planned → Option ℕ
moved_to p = if p.id == 0x2007 then slice_get p.after.items 0 else None

abbrev pub moved_by : Option Planned → Option ℕ
moved_by None = None
moved_by (Some p) = moved_to p

abbrev pub moved_or : ℕ → Option ℕ → ℕ
moved_or rest None = rest
moved_or rest (Some domain) = domain

-- the first move among steps of the same clock from the same domain
abbrev pub domain_after : List Planned → Planned → ℕ
domain_after [] p = p.domain
domain_after (x ∷ xs) p =
    if x.clock == p.clock && x.domain == p.domain then moved_or (domain_after xs p) (moved_to x) else domain_after xs p

abbrev pub last_domain_of : List Planned → Option Planned → ℕ
last_domain_of steps None = 0
last_domain_of steps (Some p) = domain_after steps p

-- the domain of the clock of a step after all moves
unfoldable pub last_domain : RolloutValue → ℕ → ℕ
last_domain o step = last_domain_of o.steps (slice_get o.steps step)

-- ---- whether a value is the one that is looked for

abbrev pub is_planned_before : List ℕ → Option Planned → Bool
is_planned_before octets None = false
is_planned_before octets (Some p) = is_same p.id p.before.items octets

abbrev pub is_planned_after : List ℕ → Option Planned → Bool
is_planned_after octets None = false
is_planned_after octets (Some p) = is_same p.id p.after.items octets

-- the value of a step's member is the one before it, or the one that it asks
unfoldable pub is_before : RolloutValue → ℕ → List ℕ → Bool
is_before o step octets = is_planned_before octets (slice_get o.steps step)

unfoldable pub is_after : RolloutValue → ℕ → List ℕ → Bool
is_after o step octets = is_planned_after octets (slice_get o.steps step)

-- ---- what becomes of it

abbrev pub at : RolloutValue → Stage → RolloutValue
at o stage = record o { stage = stage }

abbrev pub held_lane : List Lane → ℕ → Option Lane → List Lane
held_lane lanes lane None = lanes
held_lane lanes lane (Some l) = slice_set lanes lane (record l { is_held = true })

-- no further step is begun at this clock
abbrev pub held : RolloutValue → ℕ → RolloutValue
held o lane = record o { lanes = held_lane o.lanes lane (slice_get o.lanes lane) }

-- the octets of a record with a group of octets, and the CRC-32 after it
unfoldable pub record_octets : State → ℕ → Record → List ℕ → List ℕ
record_octets s crc entry octets = lead_of s.head ++ framed crc (body_of entry octets [])

unfoldable pub record_crc : ℕ → Record → List ℕ → ℕ
record_crc crc entry octets = crc_after crc (counted (body_of entry octets []))

-- a record is taken, and handed out
abbrev pub noted_with : RolloutValue → Record → List ℕ → Then → RolloutValue
noted_with o entry octets next = record o {
  journal = taken o.journal entry;
  crc = record_crc o.crc entry octets;
  stage = stages.Noting next;
  noted = record_octets o.journal o.crc entry octets;
}

abbrev pub place_of : Option ℕ → ℕ
place_of None = 65535
place_of (Some step) = step

-- it ends so if its journal may have this end, and else stays open
abbrev pub ended : ℕ → RolloutValue → Ending → Option ℕ → RolloutValue
ended time o ending step =
    if goes_on o.journal && may_end o.journal.marks ending (place_of step)
    then noted_with o (records.End time ending (place_of step)) [] (thens.End ending step)
    else at o (stages.Over (overs.Open whys.Silent step))
