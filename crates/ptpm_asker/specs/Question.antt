-- The question whether a session's next number is new to the clock: a GET with random octets in place of its dataField. It is
-- of a data set that each clock has. A clock ignores them, and takes a repeat for one by them. So an answer shows that the number is new.
-- And what an earlier run left under way (this project's profile).
use Rattle.std.specs.Prelude.{ℕ, ◌==◌, ◌&&◌, ◌||◌, Bool, true, false, if◌then◌else◌, List, [], length, take, Option, Some, None, is_some}
use Rattle.ptpm_codec.specs.declared.message.Action.{Action}
use Rattle.ptpm_codec.specs.declared.message.Action.TheVariants as actions
use Rattle.ptpm_codec.specs.Layout.{octet}
use Rattle.ptpm_data.specs.ManagementId.{is_of_port}
use Rattle.ptpm_data.specs.Request.{RequestValue}
use Rattle.ptpm_manager.specs.declared.ask.Ask.{Ask}
use Rattle.ptpm_manager.specs.declared.error.BeginError.{BeginError}
use Rattle.ptpm_manager.specs.Ask.{ask_refusal, named_ask_refusal, request_at_port, request_of}
use Rattle.ptpm_manager.specs.Session.{SessionValue, begin_at_refusal, begin_refusal}
use Rattle.ptpm_asker.specs.declared.earlier.Earlier.{Earlier}
use Rattle.ptpm_asker.specs.declared.earlier.Earlier.TheVariants as earlier

-- The request that is made of an ask. It names the port that is named, for an id of the clock too: some clocks answer only then.
abbrev pub asked_request : Ask → RequestValue
asked_request a = if is_some a.port then request_at_port a else request_of a

-- why an ask by itself is refused, at a clock of this many ports
abbrev pub asked_refusal : ℕ → Ask → Option BeginError
asked_refusal ports a = if is_some a.port then named_ask_refusal ports a else ask_refusal ports a

-- why a session does not begin the request that is made of an ask
abbrev pub begins_refusal : SessionValue → Ask → Option BeginError
begins_refusal s a = if is_some a.port then begin_at_refusal s a else begin_refusal s a

-- DEFAULT_DATA_SET; PORT_DATA_SET for an id of a port, since some clocks answer only if the port is named
abbrev pub question_id : ℕ → ℕ
question_id id = if is_of_port id then 0x2004 else 0x2000

-- as many octets as the data set has
abbrev pub question_size : ℕ → ℕ
question_size id = if is_of_port id then 26 else 20

-- the question before a request
abbrev pub question : List ℕ → Ask → Ask
question drawn a = record { action = actions.Get; id = question_id a.id; port = a.port; octets = take (question_size a.id) drawn }

-- a read of the same, which a clock answers whatever numbers it took
abbrev pub read_of : Ask → Ask
read_of a = record { action = actions.Get; id = question_id a.id; port = a.port; octets = [] }

abbrev pub is_get : Action → Bool
is_get actions.Get = true
is_get actions.Set = false
is_get actions.Response = false
is_get actions.Command = false
is_get actions.Acknowledge = false

-- whether a request is a question
abbrev pub is_question : RequestValue → Bool
is_question q =
    is_get q.action && ((q.id == 0x2000 && length q.octets == 20) || (q.id == 0x2004 && length q.octets == 26))

abbrev pub asks_question : Option RequestValue → Bool
asks_question None = false
asks_question (Some q) = is_question q

-- ---- what an earlier run left under way

-- a SET of DOMAIN has the domain in its first octet (15.5.3.2.3)
abbrev pub change_of : RequestValue → Earlier
change_of q = if q.id == 0x2007 && length q.octets == 2 then earlier.MovesTo (octet 0 q.octets) else earlier.Changes

abbrev pub by_action : Action → RequestValue → Earlier
by_action actions.Get q = earlier.Reads
by_action actions.Set q = change_of q
by_action actions.Response q = earlier.Changes
by_action actions.Command q = earlier.Changes
by_action actions.Acknowledge q = earlier.Changes

abbrev pub earlier_of : Option RequestValue → Earlier
earlier_of None = earlier.NoRequest
earlier_of (Some q) = if is_question q then earlier.Question else by_action q.action q
