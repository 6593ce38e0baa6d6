-- What becomes of a member that a plan asks for.
use Rattle.std.specs.Prelude.{ℕ, ◌==◌, nat_lt, Bool, true, false, if◌then◌else◌, bytes_eq, List, [], Option, Some, None, Result, Ok, Err}
use Rattle.ptpm_members.specs.FieldText.{field_text}
use Rattle.ptpm_members.specs.declared.parsing.ParseFault.{ParseFault}
use Rattle.ptpm_plan.specs.After.{after}
use Rattle.ptpm_plan.specs.Answers.{last_answer}
use Rattle.ptpm_plan.specs.Octets.{pair_at}
use Rattle.ptpm_plan.specs.PlannedId.{number_of}
use Rattle.ptpm_plan.specs.declared.answer.Answer.{Answer}
use Rattle.ptpm_plan.specs.declared.answer.Said.{Said}
use Rattle.ptpm_plan.specs.declared.answer.Said.TheVariants as says
use Rattle.ptpm_plan.specs.declared.change.PlannedId.{PlannedId}
use Rattle.ptpm_plan.specs.declared.subject.Subject.{Subject}
use Rattle.ptpm_plan.specs.declared.verdict.Verdict.{Verdict}
use Rattle.ptpm_plan.specs.declared.verdict.Verdict.TheVariants as verdicts
use Rattle.ptpm_plan.specs.declared.wish.Wished.{Wished}

-- ---- it was answered

-- two dataFields of an id have members of the same values: reserved octets and bits do not count
unfoldable pub is_same : PlannedId → List ℕ → List ℕ → Bool
is_same id before after = bytes_eq (field_text [] (number_of id) before) (field_text [] (number_of id) after)

-- it stays if it has these values already
abbrev pub changed : PlannedId → List ℕ → List ℕ → Verdict
changed id before after =
    if is_same id before after then verdicts.Stays (record { items = before })
    else verdicts.Changes (record { items = before }) (record { items = after })

abbrev pub changed_if : PlannedId → List ℕ → Result (List ℕ) ParseFault → Verdict
changed_if id before (Err fault) = verdicts.NoValue fault
changed_if id before (Ok after) = changed id before after

-- it can't be set if its GET is refused, or if what is wished is no value of the id
abbrev pub verdict_of_said : PlannedId → Wished → Said → Verdict
verdict_of_said id wished (says.Refused error) = verdicts.GetRefused error
verdict_of_said id wished (says.Is before) = changed_if id before.items (after id wished before.items)

-- ---- it was not answered

abbrev pub has_fewer_ports : ℕ → Said → Bool
has_fewer_ports port (says.Is field) = nat_lt (pair_at 2 field.items) port
has_fewer_ports port (says.Refused error) = false

abbrev pub has_fewer_ports_by : ℕ → Option Answer → Bool
has_fewer_ports_by port None = false
has_fewer_ports_by port (Some a) = has_fewer_ports port a.said

-- numberPorts of the clock's last DEFAULT_DATA_SET is below the port's number
unfoldable pub lacks_port : List Answer → Subject → Bool
lacks_port answers s = has_fewer_ports_by s.port (last_answer s.domain s.clock 0 0x2000 answers)

-- it can't be set if the clock has no such port, and else it is not reached
abbrev pub unanswered : List Answer → Subject → Verdict
unanswered answers s = if lacks_port answers s then verdicts.NoPort else verdicts.NotReached

-- ---- either

abbrev pub verdict_of_answer : List Answer → Subject → Wished → Option Answer → Verdict
verdict_of_answer answers s wished None = unanswered answers s
verdict_of_answer answers s wished (Some a) = verdict_of_said s.id wished a.said

-- what becomes of a member that is wished to be so, by its last answer
abbrev pub verdict_of : List Answer → Subject → Wished → Verdict
verdict_of answers s wished =
    verdict_of_answer answers s wished (last_answer s.domain s.clock s.port (number_of s.id) answers)

-- ---- two of them

-- two tables that ask for one member ask for the same, or both for no value of it
abbrev pub is_alike : Verdict → Verdict → Bool
is_alike verdicts.NotReached verdicts.NotReached = true
is_alike verdicts.NoPort verdicts.NoPort = true
is_alike (verdicts.GetRefused one) (verdicts.GetRefused two) = one == two
is_alike (verdicts.NoValue one) (verdicts.NoValue two) = true
is_alike (verdicts.Stays one) (verdicts.Stays two) = bytes_eq one.items two.items
is_alike (verdicts.Changes before one) (verdicts.Changes again two) = bytes_eq one.items two.items
is_alike _ _ = false
