-- What a turn of a change of several clocks may do, by the stage that it comes to.
use Rattle.std.specs.Prelude.{◌≡◌, ◌⊎◌, ◌+◌, ℕ, true, List, length}
use Rattle.ptpm_journal.specs.declared.record.Ending.{Ending}
use Rattle.ptpm_journal.specs.declared.record.Ending.TheVariants as endings
use Rattle.ptpm_journal.specs.declared.record.Record.{Record}
use Rattle.ptpm_journal.specs.Journal.{MayTake, taken}
use Rattle.ptpm_apply.specs.declared.action.Over.{Over}
use Rattle.ptpm_apply.specs.declared.action.Over.TheVariants as overs
use Rattle.ptpm_apply.specs.declared.event.Event.{Event}
use Rattle.ptpm_apply.specs.declared.stage.Stage.{Stage}
use Rattle.ptpm_apply.specs.declared.stage.Stage.TheVariants as stages
use Rattle.ptpm_apply.specs.declared.stage.Then.{Then}
use Rattle.ptpm_apply.specs.declared.stage.Then.TheVariants as thens
use Rattle.ptpm_apply.specs.Going.{AreDone}
use Rattle.ptpm_apply.specs.Rollout.{CanBegin, Fits, RolloutValue, record_crc, record_octets}
use Rattle.ptpm_apply.specs.Turning.{is_wanted}

-- a record is handed out that its journal takes there, and the journal has it then
pub record IsNoting (o v : RolloutValue) : Type 0 where
  pub entry : Record
  pub octets : List ℕ
  pub may : MayTake o.journal entry
  pub becomes : v.journal ≡ taken o.journal entry
  pub noted : v.noted ≡ record_octets o.journal o.crc entry octets
  pub crc : v.crc ≡ record_crc o.crc entry octets

-- the member of the last step was read, and has the value that was asked
pub record IsLastRead (o : RolloutValue) (e : Event) : Type 0 where
  pub last : ℕ
  pub is_last : last + 1 ≡ length o.steps
  pub read : o.stage ≡ stages.Verifying last
  pub wanted : is_wanted o e ≡ true

abbrev pub IsReadAll : RolloutValue → Event → Ending → Type 0
IsReadAll o e endings.Complete = (length o.steps ≡ 0) ⊎ IsLastRead o e
IsReadAll o e _ = Unit {0}

-- the end is complete only after that
abbrev pub IsVerified : RolloutValue → Event → Then → Type 0
IsVerified o e (thens.End ending step) = IsReadAll o e ending
IsVerified o e _ = Unit {0}

-- the member of the step before was read so
pub record IsReadBefore (o : RolloutValue) (e : Event) (step : ℕ) : Type 0 where
  pub last : ℕ
  pub is_next : step ≡ last + 1
  pub read : o.stage ≡ stages.Verifying last
  pub wanted : is_wanted o e ≡ true

-- A step is asked only if it may be begun, and its member was just read as the plan has it. At the end members are read in order, from the
-- first on, once all steps are done. Nothing but a record that is handed out changes the journal.
abbrev pub IsEnded : RolloutValue → Over → Type 0
IsEnded o (overs.Ended ending step) = o.stage ≡ stages.Noting (thens.End ending step)
IsEnded o _ = Unit {0}

abbrev pub IsMoveTo : RolloutValue → Event → RolloutValue → Stage → Type 0
IsMoveTo o e v (stages.Noting next) = IsNoting o v × IsVerified o e next
IsMoveTo o e v (stages.Asking step) =
    (v.journal ≡ o.journal) × CanBegin o.journal step × (o.stage ≡ stages.Reading step) × (is_wanted o e ≡ true)
IsMoveTo o e v (stages.Verifying step) =
    (v.journal ≡ o.journal) × (((step ≡ 0) × AreDone o.journal) ⊎ IsReadBefore o e step)
IsMoveTo o e v (stages.Over how) = (v.journal ≡ o.journal) × IsEnded o how
IsMoveTo o e v _ = v.journal ≡ o.journal

abbrev pub IsMove : RolloutValue → Event → RolloutValue → Type 0
IsMove o e v = IsMoveTo o e v v.stage

-- what holds of it at its stage
abbrev pub IsFit : RolloutValue → Type 0
IsFit o = Fits o.journal (length o.lanes) (length o.steps) o.stage
