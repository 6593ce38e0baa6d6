-- What a survey says of a clock and of a port.
use Rattle.std.specs.Prelude.{ℕ, ◌==◌, Bool, ◌&&◌, List, Option}
use Rattle.std.specs.List.{find}
use Rattle.ptpm_codec.specs.Identity.{same_clock}
use Rattle.ptpm_codec.specs.declared.identity.ClockIdentity.{ClockIdentity}
use Rattle.ptpm_plan.specs.declared.surveyed.SurveyedClock.{SurveyedClock}
use Rattle.ptpm_plan.specs.declared.surveyed.SurveyedPort.{SurveyedPort}

-- it is this clock of this domain
abbrev pub is_clock : ℕ → ClockIdentity → SurveyedClock → Bool
is_clock domain identity c = (c.domain == domain) && same_clock c.identity identity

-- it is this port of this clock in this domain
abbrev pub is_port : ℕ → ClockIdentity → ℕ → SurveyedPort → Bool
is_port domain clock number p = (p.domain == domain) && (same_clock p.clock clock && (p.number == number))

abbrev pub clock_in : ℕ → ClockIdentity → List SurveyedClock → Option SurveyedClock
clock_in domain identity = find (is_clock domain identity)

abbrev pub port_in : ℕ → ClockIdentity → ℕ → List SurveyedPort → Option SurveyedPort
port_in domain clock number = find (is_port domain clock number)
