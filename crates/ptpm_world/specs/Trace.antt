-- What a script prints (this project's profile): a line for each event, and at the end each session's reports and each clock's
-- data sets. These have names, and are in the file's order.
use Rattle.std.specs.Prelude.{ℕ, ◌+◌, nat_lt, Bool, true, false, List, [], ◌∷◌, ◌++◌, codes, decimal, flat_map, length, Result, Ok, Err, if◌then◌else◌, ◌==◌}
use Rattle.std.specs.List.{enumerate_from, range_with_len}
use Rattle.std.specs.Int.{to_be_bytes, w16}
use Rattle.ptpm_codec.specs.declared.error.ErrorId.TheVariants as named
use Rattle.ptpm_codec.specs.Message.{error_name}
use Rattle.ptpm_data.specs.DataField.{data_field_of_id}
use Rattle.ptpm_data.specs.Members.{DataSetsValue}
use Rattle.ptpm_manager.specs.declared.report.Outcome.{Outcome}
use Rattle.ptpm_manager.specs.declared.report.Outcome.TheVariants as outcomes
use Rattle.ptpm_manager.specs.declared.report.Report.{Report}
use Rattle.ptpm_network.specs.Events as machine
use Rattle.ptpm_network.specs.Events.{frame_at}
use Rattle.ptpm_network.specs.RunningNetwork.{RunningNetwork}
use Rattle.ptpm_network.specs.Network.{Network}
use Rattle.ptpm_script.specs.declared.event.Event.{Event}
use Rattle.ptpm_script.specs.EventLine.{verb_of}
use Rattle.ptpm_text.specs.OctetText.{text_of_octets}
use Rattle.ptpm_world.specs.declared.took.StepError.{StepError}
use Rattle.ptpm_world.specs.declared.took.StepError.TheVariants as errors
use Rattle.ptpm_world.specs.declared.took.Took.{Took}
use Rattle.ptpm_world.specs.Placed.{Names, placed}
use Rattle.ptpm_world.specs.Running.{is_late_held}
use Rattle.ptpm_world.specs.Took.{after, answer, step_error_text, took_text}

abbrev pub line_feed : List ℕ
line_feed = 10 ∷ []

-- ---- an event's line

-- the delivery of a late frame says so; a delivery that is refused is none
abbrev pub answer_text : Result Took StepError → Bool → List ℕ
answer_text (Ok took) true = took_text took ++ codes " late"
answer_text (Ok took) false = took_text took
answer_text (Err error) late = codes "refused " ++ step_error_text error

-- the first and the last number of the frames that were made, from their count before and their count after
abbrev pub frames_text : ℕ → ℕ → List ℕ
frames_text before after = if nat_lt before after then codes " frames " ++ decimal (before + 1) ++ codes "-" ++ decimal after else []

-- the number of its line, its verb, what it did or why it was refused, and which frames it made
unfoldable pub event_text : ℕ → List ℕ → Result Took StepError → Bool → ℕ → ℕ → List ℕ
event_text number verb answer late before after =
    decimal number ++ codes " " ++ verb ++ codes " " ++ answer_text answer late ++ frames_text before after ++ line_feed

-- ---- what an event does, by its place in the run

-- want of memory is no refusal, and ends a script
abbrev pub is_out_of_memory : Result Took StepError → Bool
is_out_of_memory (Err errors.OutOfMemory) = true
is_out_of_memory _ = false

abbrev pub is_late_event : RunningNetwork → machine.Event → Bool
is_late_event r (machine.Deliver n) = is_late_held r (frame_at r.frames n)
is_late_event r _ = false

abbrev pub event_line : Network → Names → RunningNetwork → ℕ → Event → List ℕ
event_line N names r number e =
    let event = placed names e in
    event_text number (verb_of e) (answer N r event) (is_late_event r event) (length r.frames) (length (after N r event).frames)

-- ---- reports

-- the standard's name of a managementErrorId (15.5.4.3), or its four hexadecimal digits
unfoldable pub error_text : ℕ → List ℕ
error_text n =
    if n == 0x0001 then error_name named.ResponseTooBig
    else if n == 0x0002 then error_name named.NoSuchId
    else if n == 0x0003 then error_name named.WrongLength
    else if n == 0x0004 then error_name named.WrongValue
    else if n == 0x0005 then error_name named.NotSetable
    else if n == 0x0006 then error_name named.NotSupported
    else if n == 0xfffe then error_name named.GeneralError
    else text_of_octets (to_be_bytes w16 n)

abbrev pub outcome_text : Outcome → List ℕ
outcome_text (outcomes.Value octets) = codes "value " ++ text_of_octets octets
outcome_text outcomes.Done = codes "done"
outcome_text (outcomes.Refused error) = codes "refused " ++ error_text error

unfoldable pub report_line : List ℕ → Report → List ℕ
report_line session report =
    codes "report " ++ session ++ codes " " ++ decimal report.index ++ codes " " ++ outcome_text report.outcome ++ line_feed

abbrev pub session_lines : List ℕ → List Report → List ℕ
session_lines session reports = flat_map (report_line session) reports

abbrev pub report_lines : Names → RunningNetwork → List ℕ
report_lines names r = flat_map (λ s. session_lines s.1 (r.reports s.0)) (enumerate_from 0 names.sessions)

-- ---- data sets

-- whose they are, the managementId in four digits, and the dataField that a GET of it answers
unfoldable pub data_line : List ℕ → List ℕ → List ℕ → List ℕ
data_line whose id field = codes "data " ++ whose ++ codes " " ++ id ++ codes " " ++ text_of_octets field ++ line_feed

-- a port is named by its clock's name, a dot, and its number
unfoldable pub port_line : List ℕ → DataSetsValue → ℕ → List ℕ
port_line clock sets port = data_line (clock ++ codes "." ++ decimal port) (codes "2004") (data_field_of_id 0x2004 port sets)

-- USER_DESCRIPTION and the four data sets of the clock
unfoldable pub data_set_lines : List ℕ → DataSetsValue → List ℕ
data_set_lines clock sets =
    data_line clock (codes "0002") (data_field_of_id 0x0002 0 sets)
    ++ data_line clock (codes "2000") (data_field_of_id 0x2000 0 sets)
    ++ data_line clock (codes "2001") (data_field_of_id 0x2001 0 sets)
    ++ data_line clock (codes "2002") (data_field_of_id 0x2002 0 sets)
    ++ data_line clock (codes "2003") (data_field_of_id 0x2003 0 sets)

-- and then PORT_DATA_SET of each port
abbrev pub clock_lines : List ℕ → DataSetsValue → List ℕ
clock_lines clock sets = data_set_lines clock sets ++ flat_map (port_line clock sets) (range_with_len 1 (length sets.ports))

abbrev pub data_lines : Names → RunningNetwork → List ℕ
data_lines names r = flat_map (λ c. clock_lines c.1 (r.clock c.0).sets) (enumerate_from 0 names.clocks)
