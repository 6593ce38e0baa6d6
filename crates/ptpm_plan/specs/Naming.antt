-- Which clock of a domain a table of the file names: by its identity, or by the description that it alone has there.
use Rattle.std.specs.Prelude.{ℕ, ◌==◌, Bool, false, not, ◌&&◌, if◌then◌else◌, bytes_eq, count_by, replicate, List, Option, Some, None}
use Rattle.std.specs.List.{find}
use Rattle.std.specs.Option.{option_map}
use Rattle.ptpm_codec.specs.Identity.{every_clock, same_clock}
use Rattle.ptpm_codec.specs.declared.identity.ClockIdentity.{ClockIdentity}
use Rattle.ptpm_plan.specs.Answers.{description_by}
use Rattle.ptpm_plan.specs.declared.answer.Answer.{Answer}
use Rattle.ptpm_plan.specs.declared.naming.Named.{Named}
use Rattle.ptpm_plan.specs.declared.naming.Named.TheVariants as names
use Rattle.ptpm_plan.specs.declared.surveyed.SurveyedClock.{SurveyedClock}
use Rattle.ptpm_plan.specs.declared.wish.Target.{Target}
use Rattle.ptpm_plan.specs.declared.wish.Target.TheVariants as targets

-- what a clock has until its host gives it an identity (this project's profile)
abbrev pub no_identity : ClockIdentity
no_identity = record { 0 = replicate 8 0 }

-- an identity that a table may give: all ones mean every clock (15.3.1)
abbrev pub is_of_one_clock : ClockIdentity → Bool
is_of_one_clock identity = not (same_clock identity every_clock) && not (same_clock identity no_identity)

abbrev pub is_text : List ℕ → Option (List ℕ) → Bool
is_text text None = false
is_text text (Some description) = bytes_eq description text

abbrev pub is_called : List Answer → ℕ → List ℕ → SurveyedClock → Bool
is_called answers domain text c = (c.domain == domain) && is_text text (description_by domain c.identity answers)

-- the first clock that has it, if no other has
abbrev pub named_of : ℕ → Option ClockIdentity → Named
named_of count None = names.Other count
named_of count (Some clock) = if count == 1 then names.One clock else names.Other count

-- the clock of a domain that alone has a description
unfoldable pub clock_called : List SurveyedClock → List Answer → ℕ → List ℕ → Named
clock_called clocks answers domain text =
    named_of (count_by (is_called answers domain text) clocks)
    (option_map (λ (c : SurveyedClock). c.identity) (find (is_called answers domain text) clocks))

abbrev pub clock_named : List SurveyedClock → List Answer → ℕ → Target → Named
clock_named clocks answers domain (targets.Identity clock) = names.One clock
clock_named clocks answers domain (targets.Description text) = clock_called clocks answers domain text
