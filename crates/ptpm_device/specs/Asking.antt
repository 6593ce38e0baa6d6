-- What a datagram would have a clock's device do (this project's profile).
use Rattle.std.specs.Prelude.{ℕ, ◌==◌, ◌&&◌, not, Bool, true, false, if◌then◌else◌, List, length, Option, Some, None, is_none, is_some}
use Rattle.ptpm_codec.specs.declared.identity.PortIdentity.{PortIdentity}
use Rattle.ptpm_codec.specs.declared.message.Message.{Message}
use Rattle.ptpm_codec.specs.Reading.{message_of}
use Rattle.ptpm_data.specs.declared.rights.Rights.{Rights}
use Rattle.ptpm_data.specs.ManagementId.{row_of}
use Rattle.ptpm_data.specs.Refusals.{refusal_of}
use Rattle.ptpm_data.specs.Replies.{is_get}
use Rattle.ptpm_data.specs.Request.{RequestValue}
use Rattle.ptpm_agent.specs.declared.verdict.Verdict.{Verdict}
use Rattle.ptpm_agent.specs.declared.verdict.Verdict.TheVariants as verdicts
use Rattle.ptpm_agent.specs.Addressing.{is_addressed, is_for_this_clock, is_own, names_port, request_of}
use Rattle.ptpm_agent.specs.Turn.{Clock, NumberedRequest, State, judged, numbered_from}
use Rattle.ptpm_device.specs.declared.asking.Asked.TheInside.{Inside}
use Rattle.ptpm_device.specs.declared.relayed.RelayedId.{RelayedId}
use Rattle.ptpm_device.specs.Relayed.{is_change, refusal_in, relayed}

-- ---- what it may be asked

-- a SET or COMMAND of this manager that the clock itself does not refuse
abbrev pub is_permitted : Clock → PortIdentity → RequestValue → Bool
is_permitted c who q = is_change q.action && is_none (refusal_of q (c.rights who))

-- a SET or COMMAND of this manager that neither the table's row of its id refuses nor, without a row, the clock
abbrev pub is_for_device : List RelayedId → Clock → PortIdentity → RequestValue → Bool
is_for_device rows c who q = is_change q.action && is_none (refusal_in rows q (c.rights who))

-- a GET of an id that the clock lacks
abbrev pub is_lacked : RequestValue → Bool
is_lacked q = is_get q.action && is_none (row_of q.id)

abbrev pub is_new : Verdict → Bool
is_new verdicts.AnsweredNew = true
is_new _ = false

-- what is answered from the data sets, and not from what is kept
abbrev pub is_read : Verdict → Bool
is_read verdicts.AnsweredNew = true
is_read verdicts.AnsweredUnnumbered = true
is_read _ = false

-- for exactly this clock, at a port that it has, in its domain, and of another clock
unfoldable pub is_here : Clock → State → Message → Bool
is_here c s v =
    v.sdo == 0
    && (v.domain == s.sets.default.domain
    && (not (is_own c v) && (is_for_this_clock c v && names_port (length s.sets.ports) v.target.port)))

-- The device is asked about a new one. A repeat has its answer, and what is refused before is refused whatever the device says.
unfoldable pub is_asked : List RelayedId → Clock → State → Message → Bool
is_asked rows c s v = is_new (judged c s v) && is_for_device rows c v.source (request_of v)

abbrev pub asked_by : List RelayedId → Clock → State → Option Message → Option NumberedRequest
asked_by rows c s None = None
asked_by rows c s (Some v) = if is_asked rows c s v then Some (numbered_from v) else None

-- what a clock's device is asked about a datagram, if it is asked
unfoldable pub asked : List RelayedId → Clock → State → List ℕ → Option NumberedRequest
asked rows c s datagram = asked_by rows c s (message_of datagram)

-- The device is asked for a value that the clock would refuse, since it lacks the id. A repeat has its answer.
unfoldable pub is_wanted : Clock → State → Message → Bool
is_wanted c s v = is_read (judged c s v) && is_lacked (request_of v)

abbrev pub wanted_by : Clock → State → Option Message → Option NumberedRequest
wanted_by c s None = None
wanted_by c s (Some v) = if is_wanted c s v then Some (numbered_from v) else None

-- the GET whose value a clock's device is asked for, if it is
unfoldable pub wanted : Clock → State → List ℕ → Option NumberedRequest
wanted c s datagram = wanted_by c s (message_of datagram)

-- for this clock or every clock, at a port that it has, in its domain, and of another clock
unfoldable pub is_reached : Clock → State → Message → Bool
is_reached c s v =
    v.sdo == 0 && (v.domain == s.sets.default.domain && (not (is_own c v) && is_addressed c s.sets v))

-- ---- a value whose answer the clock keeps

-- it is asked for by a manager's new request
abbrev pub is_wanted_new : Clock → State → Message → Bool
is_wanted_new c s v = is_new (judged c s v) && is_lacked (request_of v)

abbrev pub wanted_new_by : Clock → State → Option Message → Option NumberedRequest
wanted_new_by c s None = None
wanted_new_by c s (Some v) = if is_wanted_new c s v then Some (numbered_from v) else None

unfoldable pub wanted_new : Clock → State → List ℕ → Option NumberedRequest
wanted_new c s datagram = wanted_new_by c s (message_of datagram)

-- ---- a value whose answer it doesn't keep

-- it is asked for by a request without a number
abbrev pub is_unnumbered : Verdict → Bool
is_unnumbered verdicts.AnsweredUnnumbered = true
is_unnumbered _ = false

abbrev pub is_wanted_once : Clock → State → Message → Bool
is_wanted_once c s v = is_unnumbered (judged c s v) && is_lacked (request_of v)

abbrev pub wanted_once_by : Clock → State → Option Message → Bool
wanted_once_by c s None = false
wanted_once_by c s (Some v) = is_wanted_once c s v

unfoldable pub wanted_once : Clock → State → List ℕ → Bool
wanted_once c s datagram = wanted_once_by c s (message_of datagram)

-- ---- a SET or COMMAND of an id of the table

abbrev pub is_relayed_in : List RelayedId → Option Message → Bool
is_relayed_in rows None = false
is_relayed_in rows (Some v) = is_some (relayed rows (request_of v))

unfoldable pub is_relayed : List RelayedId → List ℕ → Bool
is_relayed rows datagram = is_relayed_in rows (message_of datagram)

-- the rights of a message's manager, if it is a new SET or COMMAND of it
abbrev pub rights_of_change : Clock → State → Message → Option Rights
rights_of_change c s v =
    if is_new (judged c s v) && is_change (request_of v).action then Some (c.rights v.source) else None

-- ---- as code

-- what a device is asked, against the definitions
abbrev pub asked_value : Inside → NumberedRequest
asked_value x = record { manager = x.manager; number = x.number; request = x.request }
