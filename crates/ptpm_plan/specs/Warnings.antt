-- Of what a plan warns (this project's profile).
use Rattle.std.specs.Prelude.{◌≡◌, ℕ, ◌+◌, ◌^◌, ◌==◌, nat_lt, ℤ, pos, negsuc, Bool, true, false, not, ◌&&◌, is_some, length, List, [], ◌∷◌, ◌++◌, flat_map, Option, None, Some, if◌then◌else◌}
use Rattle.std.specs.List.{filter_map, list_all, list_any}
use Rattle.std.specs.Option.{option_to_list}
use Rattle.ptpm_codec.specs.Layout.{octet}
use Rattle.ptpm_data.specs.ManagementId.{set_of}
use Rattle.ptpm_data.specs.PortSetting.{said_of}
use Rattle.ptpm_data.specs.Ranges.{is_in_range}
use Rattle.ptpm_data.specs.Refusals.{is_set_value}
use Rattle.ptpm_data.specs.declared.management_id.Layout.TheVariants as layouts
use Rattle.ptpm_data.specs.declared.port_setting.PortSetting.{PortSetting}
use Rattle.ptpm_plan.specs.BestClock.{bears_on, is_worse_time}
use Rattle.ptpm_plan.specs.PlannedId.{setting_of}
use Rattle.ptpm_plan.specs.Reach.{count_left_past, is_out_of_reach, leaves_some}
use Rattle.ptpm_plan.specs.declared.best_clock.BestClocks.{BestClocks}
use Rattle.ptpm_plan.specs.declared.best_clock.Rank.{Rank}
use Rattle.ptpm_plan.specs.declared.change.Change.{Change}
use Rattle.ptpm_plan.specs.declared.change.PlannedId.{PlannedId}
use Rattle.ptpm_plan.specs.declared.change.PlannedId.TheVariants as ids
use Rattle.ptpm_plan.specs.declared.surveyed.Surveyed.{Surveyed}
use Rattle.ptpm_plan.specs.declared.surveyed.SurveyedClock.{SurveyedClock}
use Rattle.ptpm_plan.specs.declared.warning.Warning.{Warning}
use Rattle.ptpm_plan.specs.declared.warning.Warning.TheVariants.{BestClock, CutOff, Impatient, Mechanism, NoBestClock, OutOfReach, Refused, Twice, Unjudged, WorseTime}

-- whether a clock with this agent takes a dataField of an id of the clock. It takes each octet of the others, and a text is in
-- its range once it is read
abbrev pub is_taken_of_clock : PlannedId → List ℕ → Bool
is_taken_of_clock ids.ClockAccuracy octets = is_set_value (set_of layouts.ClockAccuracy) octets
is_taken_of_clock ids.UtcProperties octets = is_set_value (set_of layouts.UtcProperties) octets
is_taken_of_clock id octets = true

-- whether it takes the value of a change
abbrev pub is_taken : Change → Option PortSetting → Bool
is_taken c None = is_taken_of_clock c.id c.after.items
is_taken c (Some setting) = is_in_range setting (said_of setting (octet 0 c.after.items))

-- the warning of a value that it refuses
abbrev pub refusal : Change → Option Warning
refusal c =
    if is_taken c (setting_of c.id) then None else Some (Refused (record { clock = c.clock; port = c.port }) c.id)

-- the warning of two clocks of one identity
abbrev pub twice : SurveyedClock → Option Warning
twice c = if c.is_twice then Some (Twice c.domain c.identity) else None

-- the warning of a clock whose rank is not known, if a change bears on the best clock of its domain
abbrev pub unjudged : List Change → SurveyedClock → Option Warning
unjudged changes c =
    if not (is_some c.precedence) && list_any (bears_on c.domain) changes then Some (Unjudged c.domain c.identity) else None

abbrev pub of_clock : List Change → SurveyedClock → List Warning
of_clock changes c = option_to_list (twice c) ++ option_to_list (unjudged changes c)

abbrev pub worse_by : ℕ → Rank → Option Rank → Option Warning
worse_by domain before None = Some (NoBestClock domain)
worse_by domain before (Some after) = if is_worse_time before after then Some (WorseTime domain before after) else None

-- the warning of a best clock that has worse time than the one before, or of a domain that no clock can lead any more
abbrev pub worse_time : BestClocks → Option Warning
worse_time b = worse_by b.domain b.before b.after

-- an octet is below a power of 2, whose exponent may be negative
abbrev pub below_doublings : ℤ → ℕ → Bool
below_doublings (pos doublings) octet = nat_lt octet (2 ^ doublings)
below_doublings (negsuc n) octet = octet == 0

-- ---- all of them

-- the warning of a best clock that changes more than once
abbrev pub often : BestClocks → Option Warning
often b = if nat_lt 1 (length b.alterations.items) then Some (BestClock b.domain (length b.alterations.items)) else None

abbrev pub of_best : BestClocks → List Warning
of_best b = option_to_list (often b) ++ option_to_list (worse_time b)

abbrev pub mechanism_of : PlannedId → ℕ → Option Warning
mechanism_of ids.DelayMechanism number = Some (Mechanism number)
mechanism_of id number = None

-- the warning of a change of how a port measures delay
abbrev pub mechanism : ℕ → Change → Option Warning
mechanism number c = mechanism_of c.id number

-- the warning of a change that moves its clock to where no request reaches it
abbrev pub unreached : List Change → Surveyed → ℕ → Change → Option Warning
unreached changes s number c =
    if is_out_of_reach changes s c then Some (OutOfReach number c.clock (octet 0 c.after.items)) else None

-- the warning of a boundary clock that moves away from clocks that may follow it
abbrev pub cut_off : List Change → Surveyed → ℕ → Change → Option Warning
cut_off changes s number c =
    if leaves_some changes s c then Some (CutOff number c.clock (count_left_past changes s c)) else None

abbrev pub of_change : List Change → Surveyed → ℕ → Change → List Warning
of_change changes s number c =
    (option_to_list (mechanism number c) ++ option_to_list (unreached changes s number c)) ++ option_to_list (cut_off changes s number c)

-- what there is of each change, by its number
abbrev pub of_changes : (ℕ → Change → List Warning) → ℕ → List Change → List Warning
of_changes of number [] = []
of_changes of number (c ∷ cs) = of number c ++ of_changes of (number + 1) cs

abbrev pub is_impatient : Warning → Bool
is_impatient (Impatient number port) = true
is_impatient _ = false

-- warnings of ports that may lose their masters are added
pub record AddsImpatient (old new : List Warning) : Type 0 where
  pub more : List Warning
  pub is : new ≡ old ++ more
  pub are : list_all is_impatient more ≡ true

-- First come those of values that a clock of this project refuses, of clocks that are two or of unknown rank, and of best clocks.
-- Then come those of ports that may lose their masters, and of single changes.
pub record AreWarnings (changes : List Change) (best : List BestClocks) (s : Surveyed) (all : List Warning) : Type 0 where
  pub impatient : List Warning
  pub are : list_all is_impatient impatient ≡ true
  pub is : all
      ≡ (((filter_map refusal changes ++ flat_map (of_clock changes) s.clocks.items) ++ flat_map of_best best) ++ impatient)
      ++ of_changes (of_change changes s) 1 changes
