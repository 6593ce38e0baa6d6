-- What comes next in a change of several clocks.
use Rattle.std.specs.Prelude.{◌≡◌, ◌≢◌, ◌≤◌, ◌<◌, ◌⊎◌, ◌-◌, ℕ, Bool, true, false, length, Option, None, Some, slice_get, slice_set, List}
use Rattle.ptpm_journal.specs.declared.record.Ending.{Ending}
use Rattle.ptpm_journal.specs.declared.record.Ending.TheVariants as endings
use Rattle.ptpm_journal.specs.declared.record.Mark.{Mark}
use Rattle.ptpm_journal.specs.declared.record.Mark.TheVariants as marks
use Rattle.ptpm_journal.specs.declared.record.Record.TheVariants as records
use Rattle.ptpm_journal.specs.Journal.{MayTake, State}
use Rattle.ptpm_apply.specs.declared.action.Over.TheVariants as overs
use Rattle.ptpm_apply.specs.declared.action.Why.{Why}
use Rattle.ptpm_apply.specs.declared.action.Why.TheVariants as whys
use Rattle.ptpm_apply.specs.declared.choice.Choice.{Choice}
use Rattle.ptpm_apply.specs.declared.choice.Choice.TheVariants as choices
use Rattle.ptpm_apply.specs.declared.lane.Lane.{Lane}
use Rattle.ptpm_apply.specs.declared.stage.Stage.TheVariants as stages
use Rattle.ptpm_apply.specs.Rollout.{CanBegin, IsBegun, RolloutValue, at, clock_in, clock_of, ended, held, is_held_at, lane_of}

-- every lane was looked at
abbrev pub AreSeen : RolloutValue → Type 0
AreSeen o = length o.lanes ≤ o.seen

-- a run may begin it now, and its clock is not held
pub record IsNext (o : RolloutValue) (step : ℕ) : Type 0 where
  pub can : CanBegin o.journal step
  pub free : is_held_at o step ≡ false

-- no earlier step is
abbrev pub IsFirst : RolloutValue → ℕ → Type 0
IsFirst o step = (earlier : ℕ) → earlier < step → IsNext o earlier → ⊥

-- no step is next
abbrev pub HasNoNext : RolloutValue → Type 0
HasNoNext o = (step : ℕ) → step < length o.steps → IsNext o step → ⊥

-- each step is done, and the journal goes on
abbrev pub AreDone : State → Type 0
AreDone s = MayTake s (records.End 0 endings.Complete 65535)

-- another clock than that of the step before
abbrev pub IsElsewhere : RolloutValue → ℕ → Type 0
IsElsewhere o step = (0 < step) × (clock_of o step ≢ clock_of o (step - 1))

-- a step of it is untouched, or has no answer
pub record IsToCome (o : RolloutValue) (lane step : ℕ) : Type 0 where
  pub here : clock_of o step ≡ clock_in o lane
  pub open_yet : (slice_get o.journal.marks step ≡ Some marks.Untouched) ⊎ (slice_get o.journal.marks step ≡ Some marks.Begun)

abbrev pub HasToCome : RolloutValue → ℕ → Type 0
HasToCome o lane = (step : ℕ) × (step < length o.steps) × IsToCome o lane step

abbrev pub left_lane : List Lane → ℕ → Option Lane → List Lane
left_lane lanes lane None = lanes
left_lane lanes lane (Some l) = slice_set lanes lane (record l { is_left = true })

-- a place without a lane has no mark
abbrev pub is_left_lane : Option Lane → Bool
is_left_lane None = true
is_left_lane (Some l) = l.is_left

-- each clock whose mark is there yet has a step to come
abbrev pub AreLeft : RolloutValue → Type 0
AreLeft o = (lane : ℕ) → lane < length o.lanes → is_left_lane (slice_get o.lanes lane) ≡ false → HasToCome o lane

-- a run that keeps going has no other mark
abbrev pub MayPass : RolloutValue → Type 0
MayPass o = o.choice ≡ choices.KeepGoing → AreLeft o

-- its mark is gone
abbrev pub left : RolloutValue → ℕ → RolloutValue
left o lane = record o { lanes = left_lane o.lanes lane (slice_get o.lanes lane); stage = stages.Leaving lane }

-- the first step that was given up, of the first `count`
abbrev pub FirstLetGo : List Mark → ℕ → Option ℕ → Type 0
FirstLetGo ms count None = (step : ℕ) → step < count → slice_get ms step ≡ Some marks.LetGo → ⊥
FirstLetGo ms count (Some step) = (step < count) × (slice_get ms step ≡ Some marks.LetGo)
    × ((earlier : ℕ) → earlier < step → slice_get ms earlier ≡ Some marks.LetGo → ⊥)

-- A run that gives up, or only settles what an earlier one left, asks no step.
abbrev pub asks_steps : Choice → Bool
asks_steps choices.Stop = true
asks_steps choices.KeepGoing = true
asks_steps choices.GiveUp = false
asks_steps choices.Settle = false

-- it was refused, or answered by another value
abbrev pub HasFailed : RolloutValue → ℕ → Type 0
HasFailed o step = (slice_get o.journal.marks step ≡ Some marks.Refused) ⊎ (slice_get o.journal.marks step ≡ Some marks.Answered)

-- no step before it was
abbrev pub IsFirstFailed : RolloutValue → ℕ → Type 0
IsFirstFailed o step = (earlier : ℕ) → earlier < step → HasFailed o earlier → ⊥

-- Why a run ends a change of itself. Of the first step that was refused, or answered by another value, that is the end, unless it keeps
-- going. Then another program's change is the end only once all steps are done.
abbrev pub EndsBy : RolloutValue → Ending → Option ℕ → Type 0
EndsBy o endings.Complete step = length o.steps ≡ 0
EndsBy o endings.Refused None = ⊥
EndsBy o endings.Refused (Some step) = (o.choice ≡ choices.Stop) × (slice_get o.journal.marks step ≡ Some marks.Refused) × IsFirstFailed o step
EndsBy o endings.Answered None = ⊥
EndsBy o endings.Answered (Some step) = (o.choice ≡ choices.Stop) × (slice_get o.journal.marks step ≡ Some marks.Answered) × IsFirstFailed o step
EndsBy o endings.Changed step = (step ≡ None) × (o.is_changed ≡ true) × (asks_steps o.choice ≡ true)
    × (o.choice ≡ choices.KeepGoing → AreDone o.journal)
EndsBy o endings.GivenUp step = (o.choice ≡ choices.GiveUp) × FirstLetGo o.journal.marks (length o.steps) step
EndsBy o endings.RolledBack step = ⊥
EndsBy o endings.Stopped step = ⊥
EndsBy o endings.InPart step = (step ≡ None) × (o.choice ≡ choices.KeepGoing) × HasNoNext o × (AreDone o.journal → ⊥)

-- the step of a lane that is begun and has no answer
abbrev pub BegunIn : RolloutValue → ℕ → Option ℕ → Type 0
BegunIn o lane None = (step : ℕ) → step < length o.steps → clock_of o step ≡ clock_in o lane → IsBegun o.journal step → ⊥
BegunIn o lane (Some step) = (step < length o.steps) × (clock_of o step ≡ clock_in o lane) × IsBegun o.journal step

abbrev pub is_told_mark : Option Mark → Bool
is_told_mark None = false
is_told_mark (Some marks.Untouched) = false
is_told_mark (Some marks.Begun) = false
is_told_mark (Some marks.Done) = true
is_told_mark (Some marks.Refused) = true
is_told_mark (Some marks.Answered) = true
is_told_mark (Some marks.LetGo) = false

abbrev pub is_told : RolloutValue → ℕ → Bool
is_told o step = is_told_mark (slice_get o.journal.marks step)

-- a step of a lane whose answer is noted, or is not
abbrev pub IsIn : RolloutValue → ℕ → Bool → ℕ → Type 0
IsIn o lane told step = (clock_of o step ≡ clock_in o lane) × (is_told o step ≡ told)

-- the latest one of a lane whose answer is noted
abbrev pub LatestTold : RolloutValue → ℕ → Option ℕ → Type 0
LatestTold o lane None = (step : ℕ) → step < length o.steps → IsIn o lane true step → ⊥
LatestTold o lane (Some step) = (step < length o.steps) × IsIn o lane true step
    × ((later : ℕ) → step < later → later < length o.steps → IsIn o lane true later → ⊥)

-- no step of it is begun, and none has an answer
unfoldable pub IsUntouched : RolloutValue → ℕ → Type 0
IsUntouched o lane = BegunIn o lane None × LatestTold o lane None

-- so it is at each lane that was not looked at
abbrev pub HasNoneLeft : RolloutValue → Type 0
HasNoneLeft o = (lane : ℕ) → o.seen ≤ lane → lane < length o.lanes → IsUntouched o lane

-- no step failed, and no other program's request has changed a clock
pub record IsFaultless (o : RolloutValue) : Type 0 where
  pub unchanged : o.is_changed ≡ false
  pub none_failed : (step : ℕ) → step < length o.steps → HasFailed o step → ⊥

-- a run that stops at the first fault has none
abbrev pub MayGoOn : RolloutValue → Type 0
MayGoOn o = o.choice ≡ choices.Stop → IsFaultless o

-- First each lane is looked at, in order; then comes the first of the next steps, and after the last one its members are read. A run
-- that only settles passes over each lane without a step that is begun or has an answer.
pub data Going (time : ℕ) (o v : RolloutValue) : Type 0 where
  Looks : (lane : ℕ) → v ≡ at o (stages.Looking lane) → o.seen ≤ lane → lane < length o.lanes
      → (o.choice ≢ choices.Settle → lane ≡ o.seen) → ((earlier : ℕ) → o.seen ≤ earlier → earlier < lane → IsUntouched o earlier)
      → (o.choice ≡ choices.Settle → IsUntouched o lane → ⊥) → Going time o v
  Checks : (step : ℕ) → v ≡ at o (stages.Checking step) → AreSeen o → IsNext o step → IsElsewhere o step → MayGoOn o
      → asks_steps o.choice ≡ true → IsFirst o step → MayPass o → Going time o v
  Reads : (step : ℕ) → v ≡ at o (stages.Reading step) → AreSeen o → IsNext o step → (IsElsewhere o step → ⊥)
      → MayGoOn o → asks_steps o.choice ≡ true → IsFirst o step → MayPass o → Going time o v
  Leaves : (lane : ℕ) → v ≡ left o lane → AreSeen o → o.choice ≡ choices.KeepGoing
      → is_left_lane (slice_get o.lanes lane) ≡ false
      → ((step : ℕ) → step < length o.steps → IsToCome o lane step → ⊥) → Going time o v
  Verifies : v ≡ at o (stages.Verifying 0) → AreSeen o → AreDone o.journal → o.is_changed ≡ false → 0 < length o.steps
      → MayPass o → Going time o v
  Ends : (ending : Ending) (step : Option ℕ) → v ≡ ended time o ending step → EndsBy o ending step → AreSeen o → MayPass o → Going time o v
  Waits : v ≡ at o (stages.Over (overs.Open whys.Silent None)) → AreSeen o → o.choice ≡ choices.Stop → HasNoNext o
      → (AreDone o.journal → ⊥) → IsFaultless o → Going time o v
  Settles : v ≡ at o (stages.Over overs.Settled) → o.choice ≡ choices.Settle → HasNoneLeft o → Going time o v

-- ---- a clock that gives no answer, or has another value

abbrev pub FailingBy : Choice → ℕ → RolloutValue → Why → ℕ → Option ℕ → RolloutValue → Type 0
FailingBy choices.Stop time o why lane step v = v ≡ at o (stages.Over (overs.Open why step))
FailingBy choices.KeepGoing time o why lane step v = Going time (held o lane) v
FailingBy choices.GiveUp time o why lane step v = v ≡ at o (stages.Over (overs.Open why step))
FailingBy choices.Settle time o why lane step v = v ≡ at o (stages.Over (overs.Open why step))

-- the run ends, or the clock is held
abbrev pub Failing : ℕ → RolloutValue → Why → ℕ → Option ℕ → RolloutValue → Type 0
Failing time o why lane step v = FailingBy o.choice time o why lane step v

abbrev pub FailingAt : ℕ → RolloutValue → ℕ → RolloutValue → Type 0
FailingAt time o step v = Failing time o whys.Silent (lane_of o step) (Some step) v

abbrev pub ChangingBy : Choice → ℕ → RolloutValue → ℕ → RolloutValue → Type 0
ChangingBy choices.Stop time o step v = v ≡ ended time o endings.Changed (Some step)
ChangingBy choices.KeepGoing time o step v = Going time (held o (lane_of o step)) v
ChangingBy choices.GiveUp time o step v = v ≡ ended time o endings.Changed (Some step)
ChangingBy choices.Settle time o step v = v ≡ ended time o endings.Changed (Some step)

-- the change ends, or the clock is held
abbrev pub ChangingAt : ℕ → RolloutValue → ℕ → RolloutValue → Type 0
ChangingAt time o step v = ChangingBy o.choice time o step v
