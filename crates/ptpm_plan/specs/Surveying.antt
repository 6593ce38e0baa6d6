-- What the answers of a survey say of its clocks and ports. The last answer counts.
use Rattle.std.specs.Prelude.{◌≡◌, ℕ, ◌+◌, ◌==◌, bit_and, Bool, true, false, not, ◌&&◌, ◌||◌, if◌then◌else◌, bytes_eq, List, [], ◌∷◌, ◌++◌, count_by, is_some, map, Option, Some, None, reverse}
use Rattle.std.specs.List.{All, find, list_any}
use Rattle.std.specs.Option.{option_map, option_map_or}
use Rattle.ptpm_codec.specs.Identity.{same_clock, same_identity}
use Rattle.ptpm_codec.specs.declared.identity.ClockIdentity.{ClockIdentity}
use Rattle.ptpm_data.specs.PortSetting.{place, port_settings}
use Rattle.ptpm_data.specs.PortState.{state_of}
use Rattle.ptpm_data.specs.SetField.{octet}
use Rattle.ptpm_plan.specs.Answers.{is_answer_of, last_answer}
use Rattle.ptpm_plan.specs.BestClock.{precedence_in}
use Rattle.ptpm_plan.specs.Octets.{pair_at}
use Rattle.ptpm_plan.specs.Surveyed.{clock_in, is_clock, is_port, port_in}
use Rattle.ptpm_plan.specs.declared.answer.Answer.{Answer}
use Rattle.ptpm_plan.specs.declared.answer.Said.{Said}
use Rattle.ptpm_plan.specs.declared.answer.Said.TheVariants as says
use Rattle.ptpm_plan.specs.declared.surveyed.Surveyed.{Surveyed}
use Rattle.ptpm_plan.specs.declared.surveyed.SurveyedClock.{SurveyedClock}
use Rattle.ptpm_plan.specs.declared.surveyed.SurveyedPort.{SurveyedPort}

-- ---- what was answered

abbrev pub field_of : Said → Option (List ℕ)
field_of (says.Is field) = Some field.items
field_of (says.Refused error) = None

abbrev pub field_in : Option Answer → Option (List ℕ)
field_in None = None
field_in (Some a) = field_of a.said

-- the dataField that a clock answered last for an id, if it did not refuse it
abbrev pub field_by : ℕ → ClockIdentity → ℕ → ℕ → List Answer → Option (List ℕ)
field_by domain clock port id answers = field_in (last_answer domain clock port id answers)

abbrev pub hops_in : Option Answer → ℕ
hops_in None = 0
hops_in (Some a) = a.hops

-- how many boundary clocks the last answer of a clock passed
abbrev pub hops_by : ℕ → ClockIdentity → List Answer → ℕ
hops_by domain clock answers = hops_in (find (is_answer_of domain clock) (reverse answers))

-- ---- a clock

-- two answers are of one port, and to one request
abbrev pub same_request : Answer → Answer → Bool
same_request a b =
    (a.domain == b.domain)
    && (same_identity a.source b.source && ((a.id == b.id) && (same_identity a.target b.target && (a.number == b.number))))

abbrev pub same_said : Said → Said → Bool
same_said (says.Is one) (says.Is two) = bytes_eq one.items two.items
same_said (says.Refused one) (says.Refused two) = one == two
same_said _ _ = false

abbrev pub contradicts : Answer → Answer → Bool
contradicts a b = same_request a b && not (same_said a.said b.said)

abbrev pub is_contradicted_in : List Answer → Option Answer → Bool
is_contradicted_in answers None = false
is_contradicted_in answers (Some a) = list_any (contradicts a) answers

-- the last answer for an id is contradicted by another one to the same request
abbrev pub is_contradicted : ℕ → ClockIdentity → ℕ → List Answer → Bool
is_contradicted domain clock id answers = is_contradicted_in answers (last_answer domain clock 0 id answers)

-- two answers to the last request for DEFAULT_DATA_SET, or to that for USER_DESCRIPTION, differ
abbrev pub is_twice : ℕ → ClockIdentity → List Answer → Bool
is_twice domain clock answers = is_contradicted domain clock 0x2000 answers || is_contradicted domain clock 2 answers

-- slaveOnly of a DEFAULT_DATA_SET (15.5.3.3.1)
abbrev pub is_slave_only : List ℕ → Bool
is_slave_only field = not (bit_and (octet 0 field) 2 == 0)

-- what its answers say of a clock
abbrev pub clock_from : List Answer → ℕ → ClockIdentity → SurveyedClock
clock_from answers domain identity = record {
  domain = domain;
  identity = identity;
  hops = hops_by domain identity answers;
  number_ports = option_map (pair_at 2) (field_by domain identity 0 0x2000 answers);
  precedence = option_map precedence_in (field_by domain identity 0 0x2000 answers);
  slave_only = option_map_or is_slave_only (field_by domain identity 0 0x2000 answers) false;
  is_twice = is_twice domain identity answers;
}

abbrev pub IsClockOf : List Answer → SurveyedClock → Type 0
IsClockOf answers c = c ≡ clock_from answers c.domain c.identity

-- ---- a port

-- what a PORT_DATA_SET says of its port (15.5.3.7.1): from octet 20 on, an octet of each setting
abbrev pub port_with : ℕ → ClockIdentity → ℕ → List ℕ → SurveyedPort
port_with domain clock number field = record {
  domain = domain;
  clock = clock;
  number = number;
  state = state_of (octet 10 field);
  settings = map (λ setting. octet (20 + place setting) field) port_settings;
}

abbrev pub port_from : List Answer → ℕ → ClockIdentity → ℕ → Option SurveyedPort
port_from answers domain clock number = option_map (port_with domain clock number) (field_by domain clock number 0x2004 answers)

abbrev pub IsPortOf : List Answer → SurveyedPort → Type 0
IsPortOf answers p = Some p ≡ port_from answers p.domain p.clock p.number

-- ---- all of them

-- one more clock, unless it is there
abbrev pub with_clock : List Answer → List SurveyedClock → ℕ → ClockIdentity → List SurveyedClock
with_clock answers clocks domain clock =
    if is_some (clock_in domain clock clocks) then clocks else clocks ++ clock_from answers domain clock ∷ []

-- the port that an answer is of, if it is one to PORT_DATA_SET, unless it is there
abbrev pub port_of : List Answer → List SurveyedPort → Answer → Option SurveyedPort
port_of answers ports a =
    if (a.id == 0x2004) && not (is_some (port_in a.domain a.source.clock a.source.port ports))
    then port_from answers a.domain a.source.clock a.source.port else None

-- it is an answer of this port to PORT_DATA_SET
abbrev pub is_port_answer : ℕ → ClockIdentity → ℕ → Answer → Bool
is_port_answer domain clock number a =
    (a.id == 0x2004) && ((a.domain == domain) && (same_clock a.source.clock clock && (a.source.port == number)))

abbrev pub has_port_answer : List Answer → ℕ → ClockIdentity → ℕ → Bool
has_port_answer answers domain clock number =
    is_some (port_from answers domain clock number) && list_any (is_port_answer domain clock number) answers

abbrev pub once_if : Bool → ℕ
once_if true = 1
once_if false = 0

-- Each clock and each port is as its answers say. A clock that answered is there once, and no other. So is a port that answered
-- PORT_DATA_SET, unless the last answer refuses it.
pub record IsSurvey (answers : List Answer) (s : Surveyed) : Type 0 where
  pub clocks : All (IsClockOf answers) s.clocks.items
  pub ports : All (IsPortOf answers) s.ports.items
  pub each_clock : (domain : ℕ) (clock : ClockIdentity)
      → count_by (is_clock domain clock) s.clocks.items ≡ once_if (list_any (is_answer_of domain clock) answers)
  pub each_port : (domain : ℕ) (clock : ClockIdentity) (number : ℕ)
      → count_by (is_port domain clock number) s.ports.items ≡ once_if (has_port_answer answers domain clock number)
