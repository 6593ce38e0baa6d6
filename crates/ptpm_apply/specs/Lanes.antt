-- The clocks of a change.
use Rattle.std.specs.Prelude.{◌≡◌, ◌≤◌, ◌<◌, ◌⊎◌, ◌+◌, ℕ, false, List, length, Some, slice_get, slice_index_or}
use Rattle.ptpm_apply.specs.declared.lane.Lane.{Lane}
use Rattle.ptpm_apply.specs.declared.planned.Planned.{Planned}

-- no step of it is held, and its mark is there
abbrev pub new_lane : ℕ → Lane
new_lane clock = record { clock = clock; is_held = false; is_left = false }

abbrev pub lane_at : List Lane → ℕ → Lane
lane_at lanes place = slice_index_or lanes place (new_lane 0)

abbrev pub clock_at : List Lane → ℕ → ℕ
clock_at lanes place = (lane_at lanes place).clock

-- they are in the order of their identities, and no two have one clock
abbrev pub AreRising : List Lane → Type 0
AreRising lanes = (i j : ℕ) → i < j → j < length lanes → clock_at lanes i < clock_at lanes j

-- ---- where a clock is

pub record IsPlaceOf (lanes : List Lane) (clock place : ℕ) : Type 0 where
  pub inside : place < length lanes
  pub is : clock_at lanes place ≡ clock

abbrev pub HasPlace : List Lane → ℕ → Type 0
HasPlace lanes clock = (place : ℕ) × IsPlaceOf lanes clock place

-- it is not there, and would be between those below it and those above it
pub record IsGapFor (lanes : List Lane) (clock place : ℕ) : Type 0 where
  pub inside : place ≤ length lanes
  pub below : (other : ℕ) → other < place → clock_at lanes other < clock
  pub above : (other : ℕ) → place ≤ other → other < length lanes → clock < clock_at lanes other

-- ---- the lanes of steps

-- it is the clock of a step, and nothing is known of it yet
pub record IsNewFor (steps : List Planned) (l : Lane) : Type 0 where
  pub is_new : l ≡ new_lane l.clock
  pub step : ℕ
  pub planned : Planned
  pub is_step : slice_get steps step ≡ Some planned
  pub here : planned.clock ≡ l.clock

-- the clocks of the first `count` steps, each once, in the order of their identities
pub record AreLanesOf (steps : List Planned) (count : ℕ) (lanes : List Lane) : Type 0 where
  pub rising : AreRising lanes
  pub few : length lanes ≤ count
  pub covered : (step : ℕ) (p : Planned) → step < count → slice_get steps step ≡ Some p → HasPlace lanes p.clock
  pub new : (place : ℕ) → place < length lanes → IsNewFor steps (lane_at lanes place)

-- a clock has a place now, and all others still have one
pub record Adds (clock : ℕ) (before after : List Lane) : Type 0 where
  pub rising : AreRising after
  pub few : length after ≤ length before + 1
  pub this : HasPlace after clock
  pub others : (other : ℕ) → HasPlace before other → HasPlace after other
  pub from : (i : ℕ) → i < length after
      → (lane_at after i ≡ new_lane clock) ⊎ ((j : ℕ) × (j < length before) × (lane_at after i ≡ lane_at before j))
