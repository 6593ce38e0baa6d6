-- A run of a change of several clocks, the latest turn first, and what it has read.
use Rattle.std.specs.Prelude.{◌≡◌, ◌⊎◌, ℕ, true, List, [], ◌∷◌}
use Rattle.ptpm_journal.specs.Journal.{State}
use Rattle.ptpm_apply.specs.declared.event.Event.{Event}
use Rattle.ptpm_apply.specs.declared.stage.Stage.TheVariants as stages
use Rattle.ptpm_apply.specs.Moves.{IsMove}
use Rattle.ptpm_apply.specs.Rollout.{RolloutValue}
use Rattle.ptpm_apply.specs.Turning.{is_wanted}

-- an event, and what the change was before it
pub record Turn : Type 0 where
  pub before : RolloutValue
  pub event : Event

-- from its begin on
abbrev pub IsRun : RolloutValue → List Turn → Type 0
IsRun v [] = v.stage ≡ stages.Fresh
IsRun v (t ∷ ts) = IsMove t.before t.event v × IsRun t.before ts

-- the member of a step was read with the value that was asked, when the journal said this
abbrev pub WasRead : State → List Turn → ℕ → Type 0
WasRead s [] step = ⊥
WasRead s (t ∷ ts) step =
    ((t.before.journal ≡ s) × (t.before.stage ≡ stages.Verifying step) × (is_wanted t.before t.event ≡ true)) ⊎ WasRead s ts step
