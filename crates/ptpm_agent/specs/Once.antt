-- At-most-once execution: which copies of requests are among deliveries, which of them were accepted, and what each is to be
-- answered. It counts a manager's requests by unbounded indexes from 1 on, and has everything that was ever accepted.
-- SequenceIds, the entries of a clock and its verdicts are no part of it (this project's profile).
use Rattle.std.specs.Prelude.{ℕ, ◌==◌, ◌&&◌, nat_lt, max, not, Bool, if◌then◌else◌, List, [], ◌∷◌, filter_map, Option, Some, None}
use Rattle.std.specs.List.{find}
use Rattle.ptpm_codec.specs.declared.identity.PortIdentity.{PortIdentity}
use Rattle.ptpm_codec.specs.declared.message.Message.{Message}
use Rattle.ptpm_codec.specs.Identity.{same_identity}
use Rattle.ptpm_codec.specs.Reading.{message_of}
use Rattle.ptpm_data.specs.Changes.{changed_by}
use Rattle.ptpm_data.specs.Members.{DataSetsValue}
use Rattle.ptpm_data.specs.Replies.{reply_to}
use Rattle.ptpm_data.specs.Reply.{ReplyValue}
use Rattle.ptpm_data.specs.Request.{RequestValue}
use Rattle.ptpm_table.specs.declared.heard.Heard.{Heard}
use Rattle.ptpm_table.specs.Entries.{is_known}
use Rattle.ptpm_table.specs.Managers.{Clock}
use Rattle.ptpm_table.specs.Numbering.{same_request}
use Rattle.ptpm_agent.specs.Addressing.{heard_of, is_for_this_clock, is_own, is_request, names_port, request_of}

-- ---- deliveries

-- a datagram that comes in at a port; if it is a copy of a manager's request, with the index of that request
pub record Delivery : Type 0 where
  pub ingress : ℕ
  pub datagram : List ℕ
  pub index : ℕ

-- a copy of request `index` of the manager `heard.source`, as it came in
pub record RequestCopy : Type 0 where
  pub ingress : ℕ
  pub index : ℕ
  pub heard : Heard
  pub request : RequestValue

-- Of sdoId 0, from a configured manager that is not of this clock. For exactly this clock and one of its N ports or all, and
-- a GET, SET or COMMAND.
abbrev pub is_copy : Clock → ℕ → Message → Bool
is_copy c ports v =
    v.sdo == 0 && (not (is_own c v) && (is_known v.source c.managers && (is_for_this_clock c v
    && (names_port ports v.target.port && is_request v))))

abbrev pub copy_from : Delivery → Message → RequestCopy
copy_from x v =
    record { ingress = x.ingress; index = x.index; heard = heard_of v; request = request_of v }

abbrev pub copy_by : Clock → ℕ → Delivery → Option Message → Option RequestCopy
copy_by c ports x None = None
copy_by c ports x (Some v) = if is_copy c ports v then Some (copy_from x v) else None

-- the copy that was delivered at a clock of this many ports, if it is one
abbrev pub copy_of : Clock → ℕ → Delivery → Option RequestCopy
copy_of c ports x = copy_by c ports x (message_of x.datagram)

-- the copies among deliveries, in their order
abbrev pub copies : Clock → ℕ → List Delivery → List RequestCopy
copies c ports xs = filter_map (copy_of c ports) xs

-- ---- what was accepted

-- a request that was accepted, with the reply that is kept for its copies
pub record Accepted : Type 0 where
  pub manager : PortIdentity
  pub index : ℕ
  pub request : RequestValue
  pub reply : ReplyValue

-- the data sets, and everything that was ever accepted, the latest first
pub record History : Type 0 where
  pub sets : DataSetsValue
  pub accepted : List Accepted

abbrev pub initial_history : DataSetsValue → History
initial_history d = record { sets = d; accepted = [] }

-- the greatest accepted index of a manager, 0 if none is
abbrev pub greatest : PortIdentity → List Accepted → ℕ
greatest m [] = 0
greatest m (a ∷ as') =
    if same_identity m a.manager then max a.index (greatest m as') else greatest m as'

-- what was accepted as request k of a manager, with the reply to it
abbrev pub kept_reply : PortIdentity → ℕ → List Accepted → Option Accepted
kept_reply m k accepted = find (λ a. same_identity m a.manager && a.index == k) accepted

-- a copy joins if it is in the clock's domain, and its index is above every accepted one of its manager
abbrev pub joins : History → RequestCopy → Bool
joins h x =
    x.heard.domain == h.sets.default.domain && nat_lt (greatest x.heard.source h.accepted) x.index

abbrev pub accepted_from : Clock → History → RequestCopy → Accepted
accepted_from c h x = record {
  manager = x.heard.source;
  index = x.index;
  request = x.request;
  reply = reply_to x.request (c.rights x.heard.source) h.sets;
}

-- a request that joins is applied, also if it is refused and so changes nothing
abbrev pub joined : Clock → History → RequestCopy → History
joined c h x = record {
  sets = changed_by x.request (c.rights x.heard.source) h.sets;
  accepted = accepted_from c h x ∷ h.accepted;
}

abbrev pub after_copy : Clock → History → RequestCopy → History
after_copy c h x = if joins h x then joined c h x else h

-- of copies in their order, each accepted request applied once, in order of first acceptance
abbrev pub applied_once : Clock → History → List RequestCopy → History
applied_once c h [] = h
applied_once c h (x ∷ xs) = applied_once c (after_copy c h x) xs

-- ---- what is due to a copy

abbrev pub kept_for : RequestCopy → Option Accepted → Option ReplyValue
kept_for x None = None
kept_for x (Some a) = if same_request a.request x.request then Some a.reply else None

-- The reply to the request if the copy joins. The reply kept if it is a copy of the latest accepted request of its
-- manager, in whatever domain. None otherwise.
abbrev pub due_reply : Clock → History → RequestCopy → Option ReplyValue
due_reply c h x =
    if joins h x then Some (reply_to x.request (c.rights x.heard.source) h.sets)
    else if greatest x.heard.source h.accepted == x.index
    then kept_for x (kept_reply x.heard.source x.index h.accepted)
    else None
