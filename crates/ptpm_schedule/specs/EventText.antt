-- How an event is written as a line of a script (this project's profile).
use Rattle.std.specs.Prelude.{ℕ, List, ◌++◌, codes, decimal, Option, Some, None}
use Rattle.std.specs.Int.{to_be_bytes, w16}
use Rattle.ptpm_codec.specs.declared.message.Action.{Action}
use Rattle.ptpm_codec.specs.declared.message.Action.TheVariants as actions
use Rattle.ptpm_data.specs.ManagementId.{RowValue, row_of}
use Rattle.ptpm_manager.specs.declared.ask.Ask.{Ask}
use Rattle.ptpm_script.specs.declared.event.Event.{Event}
use Rattle.ptpm_script.specs.declared.event.Event.TheVariants.{Begin, Send, Resume, Retune, Deliver, Stranger}
use Rattle.ptpm_text.specs.OctetText.{text_of_octets}

-- no event that is read from a line has another action
abbrev pub action_text : Action → List ℕ
action_text actions.Set = codes "set"
action_text actions.Command = codes "command"
action_text _ = codes "get"

-- the name of an id of the table, or four hexadecimal digits
abbrev pub id_text_by : Option RowValue → ℕ → List ℕ
id_text_by (Some row) id = row.name
id_text_by None id = text_of_octets (to_be_bytes w16 id)

abbrev pub port_text : Option ℕ → List ℕ
port_text (Some port) = decimal port
port_text None = codes "-"

-- action, id, port and octets
unfoldable pub ask_text : Ask → List ℕ
ask_text a =
    action_text a.action ++ codes " " ++ id_text_by (row_of a.id) a.id ++ codes " " ++ port_text a.port ++ codes " " ++ text_of_octets a.octets

-- its verb, whom it is of, and what else its line says
abbrev pub event_text : Event → List ℕ
event_text (Begin session ask) = codes "begin " ++ session ++ codes " " ++ ask_text ask
event_text (Send session) = codes "send " ++ session
event_text (Resume session attempts) = codes "resume " ++ session ++ codes " " ++ decimal attempts
event_text (Retune session domain) = codes "retune " ++ session ++ codes " " ++ decimal domain
event_text (Deliver frame) = codes "deliver " ++ decimal frame
event_text (Stranger clock port octets) = codes "stranger " ++ clock ++ codes " " ++ decimal port ++ codes " " ++ text_of_octets octets
