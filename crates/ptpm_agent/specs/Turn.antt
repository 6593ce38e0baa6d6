-- One turn of a clock: what becomes of a datagram that comes in at a port (IEEE 1588-2019, 15.3 and 15.4). Numbers,
-- kept replies and the order of verdicts are this project's profile.
use Rattle.std.specs.Prelude.{ℕ, ◌==◌, ◌&&◌, ◌||◌, not, Bool, true, false, if◌then◌else◌, List, [], ◌++◌, Option, Some, None, Result, Ok, Err}
use Rattle.std.specs.FinMap.{get, insert}
use Rattle.ptpm_codec.specs.declared.error.DecodeError.{DecodeError}
use Rattle.ptpm_codec.specs.declared.identity.PortIdentity.{PortIdentity}
use Rattle.ptpm_codec.specs.declared.message.Message.{Message}
use Rattle.ptpm_codec.specs.Reading.{reading}
use Rattle.ptpm_data.specs.Changes.{changed_by}
use Rattle.ptpm_data.specs.Members.{DataSetsValue}
use Rattle.ptpm_data.specs.Replies.{reply_to, read_reply_to}
use Rattle.ptpm_data.specs.Reply.{ReplyValue}
use Rattle.ptpm_data.specs.Request.{RequestValue}
use Rattle.ptpm_table.specs.declared.heard.Heard.{Heard}
use Rattle.ptpm_table.specs.declared.reply_table.Look.{Look}
use Rattle.ptpm_table.specs.declared.reply_table.Look.TheVariants as looks
use Rattle.ptpm_table.specs.Entries.{Entries, Entry}
use Rattle.ptpm_table.specs.Numbering.{look_of}
use Rattle.ptpm_table.specs.Rendering.{rendered}
use Rattle.ptpm_agent.specs.declared.verdict.Verdict.{Verdict}
use Rattle.ptpm_agent.specs.declared.verdict.Verdict.TheVariants as verdicts
use Rattle.ptpm_agent.specs.Addressing.{heard_of, is_addressed, is_numbered, is_own, is_request, request_of}
use Rattle.ptpm_agent.specs.Forwarding.{forwarded}
-- ---- a clock

-- what never changes of it is a `Clock`: its identity, its configured managers, and what each of them may change
pub use Rattle.ptpm_table.specs.Managers.{Clock}

-- what changes: its data sets, and what is kept of each manager
pub record State : Type 0 where
  pub sets : DataSetsValue
  pub entries : Entries

-- ---- repeats, and the clock's domain

-- a numbered request, by what is kept of its manager; `Unknown` for any other
abbrev pub look : Clock → State → Message → Look
look c s v = look_of (is_numbered c v) (get s.entries v.source) v.number (request_of v)

abbrev pub is_repeat : Look → Bool
is_repeat looks.Unknown = false
is_repeat looks.New = false
is_repeat looks.Repeat = true
is_repeat looks.Conflict = false
is_repeat looks.Old = false

-- The latest accepted request of a manager once more. It is answered in every domain (this project's profile). For a
-- SET of DOMAIN moves the clock away from managers that do not know of it yet.
abbrev pub is_accepted_repeat : Clock → State → Message → Bool
is_accepted_repeat c s v =
    not (is_own c v) && (is_addressed c s.sets v && (is_request v && is_repeat (look c s v)))

-- sdoId 0 and the clock's domain, or an accepted repeat
abbrev pub is_in_domain : Clock → State → Message → Bool
is_in_domain c s v = v.sdo == 0 && (v.domain == s.sets.default.domain || is_accepted_repeat c s v)

-- ---- verdicts

abbrev pub verdict_at : Look → Verdict
verdict_at looks.Unknown = verdicts.AnsweredUnnumbered
verdict_at looks.New = verdicts.AnsweredNew
verdict_at looks.Repeat = verdicts.AnsweredRepeat
verdict_at looks.Conflict = verdicts.DroppedConflict
verdict_at looks.Old = verdicts.DroppedOld

-- of a well-formed message: the first that holds
unfoldable pub judged : Clock → State → Message → Verdict
judged c s v =
    if not (is_in_domain c s v) then verdicts.OtherDomain
    else if is_own c v then verdicts.OwnMessage
    else if not (is_addressed c s.sets v) then verdicts.NotAddressed
    else if not (is_request v) then verdicts.NotARequest
    else verdict_at (look c s v)

abbrev pub verdict_by : Clock → State → Result Message DecodeError → Verdict
verdict_by c s (Err cause) = verdicts.Malformed cause
verdict_by c s (Ok v) = judged c s v

abbrev pub verdict_of : Clock → State → List ℕ → Verdict
verdict_of c s datagram = verdict_by c s (reading datagram)

-- ---- what each verdict does

-- to a new request, from the data sets as they are before it
abbrev pub new_reply : Clock → State → Message → ReplyValue
new_reply c s v = reply_to (request_of v) (c.rights v.source) s.sets

-- a request with its sequenceId, and whose it is
pub record NumberedRequest : Type 0 where
  pub manager : PortIdentity
  pub number : ℕ
  pub request : RequestValue

-- what is kept of it, if it is carried out: its number, and the reply to it, also if it is refused
abbrev pub entry_of : Clock → State → NumberedRequest → Entry
entry_of c s r = record {
  number = r.number;
  request = r.request;
  reply = reply_to r.request (c.rights r.manager) s.sets;
}

-- it is carried out, and kept
abbrev pub after_request : Clock → State → NumberedRequest → State
after_request c s r = record {
  sets = changed_by r.request (c.rights r.manager) s.sets;
  entries = insert s.entries r.manager (entry_of c s r);
}

abbrev pub numbered_from : Message → NumberedRequest
numbered_from v = record { manager = v.source; number = v.number; request = request_of v }

abbrev pub carried_out : Clock → State → Message → State
carried_out c s v = after_request c s (numbered_from v)

-- the messages of a reply to what was heard at this port
abbrev pub reply_messages : Clock → ℕ → Heard → Option ReplyValue → List (ℕ × List ℕ)
reply_messages c ingress heard None = []
reply_messages c ingress heard (Some r) = rendered c.identity heard r ingress

abbrev pub kept_reply_of : Option Entry → Option ReplyValue
kept_reply_of None = None
kept_reply_of (Some e) = Some e.reply

-- the reply to a message, if it gets one
abbrev pub reply_by : Verdict → Clock → State → Message → Option ReplyValue
reply_by verdicts.AnsweredNew c s v = Some (new_reply c s v)
reply_by verdicts.AnsweredRepeat c s v = kept_reply_of (get s.entries v.source)
reply_by verdicts.AnsweredUnnumbered c s v = Some (read_reply_to (request_of v) s.sets)
reply_by _ c s v = None

abbrev pub next_by : Verdict → Clock → State → Message → State
next_by verdicts.AnsweredNew c s v = carried_out c s v
next_by _ c s v = s

-- ---- a turn

pub record Turned : Type 0 where
  pub verdict : Verdict
  pub forwards : List (ℕ × List ℕ)
  pub replies : List (ℕ × List ℕ)
  pub next : State

-- all that is sent, each message with its port: the copies passed on, then the replies
abbrev pub outbox_of : Turned → List (ℕ × List ℕ)
outbox_of t = t.forwards ++ t.replies

abbrev pub turn_by : Clock → State → ℕ → List ℕ → Result Message DecodeError → Turned
turn_by c s ingress datagram (Err cause) = record {
  verdict = verdicts.Malformed cause;
  forwards = forwarded c.identity ingress s.sets datagram;
  replies = [];
  next = s;
}
turn_by c s ingress datagram (Ok v) = record {
  verdict = judged c s v;
  forwards = forwarded c.identity ingress s.sets datagram;
  replies = reply_messages c ingress (heard_of v) (reply_by (judged c s v) c s v);
  next = next_by (judged c s v) c s v;
}

-- what a clock does with a datagram that comes in at a port
unfoldable pub turn : Clock → State → ℕ → List ℕ → Turned
turn c s ingress datagram = turn_by c s ingress datagram (reading datagram)
