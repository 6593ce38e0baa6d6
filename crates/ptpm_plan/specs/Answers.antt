-- Answers to GETs (IEEE 1588-2019, 15.4.1 and 15.5.3), and what a list of them says of a clock. The last answer counts.
use Rattle.std.specs.Prelude.{ℕ, ◌-◌, ◌==◌, nat_le, Bool, true, false, ◌&&◌, ◌||◌, reverse, List, [], ◌∷◌, length, Option, Some, None, if◌then◌else◌, option_and_then}
use Rattle.std.specs.List.{find}
use Rattle.std.specs.Option.{option_map}
use Rattle.std.specs.Result.{result_ok}
use Rattle.ptpm_codec.specs.Identity.{same_clock}
use Rattle.ptpm_codec.specs.PtpText.{is_ptp_text, ptp_text}
use Rattle.ptpm_codec.specs.Reading.{reading}
use Rattle.ptpm_codec.specs.Message.{action_of, error_of, id_of, octets_of}
use Rattle.ptpm_codec.specs.declared.identity.ClockIdentity.{ClockIdentity}
use Rattle.ptpm_codec.specs.declared.message.Action.{Action}
use Rattle.ptpm_codec.specs.declared.message.Action.TheVariants as action
use Rattle.ptpm_codec.specs.declared.message.Message.{Message}
use Rattle.ptpm_members.specs.FieldText.{members_in}
use Rattle.ptpm_members.specs.declared.forms.Field.{Field}
use Rattle.ptpm_plan.specs.declared.answer.Answer.{Answer}
use Rattle.ptpm_plan.specs.declared.answer.Said.{Said}
use Rattle.ptpm_plan.specs.declared.answer.Said.TheVariants as says

-- ---- one answer

abbrev pub is_response : Action → Bool
is_response action.Response = true
is_response _ = false

-- how many boundary clocks a message passed (15.4.1)
abbrev pub hops_of : Message → ℕ
hops_of m = m.starting_hops - m.hops

abbrev pub said_with : List Field → List ℕ → Option Said
said_with [] octets = None
said_with (f ∷ fs) octets = if nat_le (length octets) 130 then Some (says.Is (record { items = octets })) else None

-- octets that are a dataField of an id; a userDescription has at most 128 (8.2.1.4)
unfoldable pub field_said : ℕ → List ℕ → Option Said
field_said id octets = said_with (members_in id octets) octets

abbrev pub said_by : Option ℕ → Message → Option Said
said_by (Some error) m = Some (says.Refused error)
said_by None m = field_said (id_of m.body) (octets_of m.body)

-- a MANAGEMENT_ERROR_STATUS refuses the GET (15.5.4)
unfoldable pub said_of : Message → Option Said
said_of m = said_by (error_of m.body) m

abbrev pub answer_with : Message → Said → Answer
answer_with m said = record {
  domain = m.domain;
  source = m.source;
  hops = hops_of m;
  id = id_of m.body;
  target = m.target;
  number = m.number;
  said = said;
}

-- the answer that a message is
unfoldable pub answer_of : Message → Option Answer
answer_of m = if is_response (action_of m.body) then option_map (answer_with m) (said_of m) else None

-- the answer that a datagram has
abbrev pub answer_in : List ℕ → Option Answer
answer_in datagram = option_and_then answer_of (result_ok (reading datagram))

-- ---- all answers

-- it is of this clock of this domain
abbrev pub is_answer_of : ℕ → ClockIdentity → Answer → Bool
is_answer_of domain clock a = (a.domain == domain) && same_clock a.source.clock clock

-- it is of this clock for this id, and of this port if the number is not 0
abbrev pub is_of : ℕ → ClockIdentity → ℕ → ℕ → Answer → Bool
is_of domain clock port id a = is_answer_of domain clock a && ((a.id == id) && ((port == 0) || (a.source.port == port)))

abbrev pub last_answer : ℕ → ClockIdentity → ℕ → ℕ → List Answer → Option Answer
last_answer domain clock port id answers = find (is_of domain clock port id) (reverse answers)

abbrev pub text_in : List ℕ → Option (List ℕ)
text_in octets = if is_ptp_text octets then Some (ptp_text octets) else None

abbrev pub text_said : Said → Option (List ℕ)
text_said (says.Is field) = text_in field.items
text_said (says.Refused error) = None

-- the text of the userDescription (5.3.9, 8.2.1.4)
abbrev pub description_by : ℕ → ClockIdentity → List Answer → Option (List ℕ)
description_by domain clock answers = option_and_then (λ a. text_said a.said) (last_answer domain clock 0 2 answers)
