-- What each event does to the network machine, which distinguishes requests by session and index, and reads no sequenceId.
use Rattle.std.specs.Prelude.{◌≡◌, ℕ, ◌+◌, ◌-◌, ◌==◌, ◌&&◌, not, Bool, false, List, [], ◌∷◌, ◌++◌, length, flat_map, Option, Some, None, is_none, if◌then◌else◌}
use Rattle.ptpm_codec.specs.declared.message.Message.{Message}
use Rattle.ptpm_codec.specs.Canonical.{canonical}
use Rattle.ptpm_codec.specs.Layout.{boundary_hops}
use Rattle.ptpm_codec.specs.Reading.{message_of}
use Rattle.ptpm_data.specs.Members.{DataSetsValue}
use Rattle.ptpm_data.specs.Replies.{read_reply_to}
use Rattle.ptpm_data.specs.Request.{RequestValue}
use Rattle.ptpm_table.specs.Rendering.{rendered}
use Rattle.ptpm_agent.specs.Forwarding.{forwarded}
use Rattle.ptpm_agent.specs.Laws.{due_messages}
use Rattle.ptpm_agent.specs.Once.{Delivery, History, RequestCopy, copy_of, due_reply}
use Rattle.ptpm_agent.specs.Addressing.{heard_of, is_addressed, is_numbered, is_own, is_request, request_of}
use Rattle.ptpm_agent.specs.Turn.{Clock}
use Rattle.ptpm_manager.specs.declared.report.Report.{Report}
use Rattle.ptpm_manager.specs.Ask as ask
use Rattle.ptpm_manager.specs.Report.{outcome_in}
use Rattle.ptpm_manager.specs.Session.{due_message}
use Rattle.ptpm_network.specs.Network.{End, AtPort, AtSession, Network, SessionStart, peers, ports}
use Rattle.ptpm_network.specs.State.{Frame, Neither, NetworkState, Origin, ReplyTo, RequestOf, SessionState, frames_to, history, initial_state, is_idle, is_late, new_frames, session_value}
use Rattle.ptpm_network.specs.Events.{Event, Begin, Send, Resume, Retune, Deliver, Replay, Stranger, Refusal, frame_at, refusal}

-- one place has another value
abbrev pub with_place : {A : Type 0} → (ℕ → A) → ℕ → A → ℕ → A
with_place f i value j = if j == i then value else f j

abbrev pub with_session : NetworkState → ℕ → SessionState → NetworkState
with_session w s state = record w { session = with_place w.session s state }

abbrev pub with_frames : NetworkState → List Frame → NetworkState
with_frames w frames = record w { frames = w.frames ++ frames }

-- ---- what a session does

abbrev pub begun_in : SessionStart → SessionState → RequestValue → SessionState
begun_in start s q = record s { begun = s.begun ++ q ∷ []; attempts_left = start.setup.attempts }

-- the frames of the unanswered request, which is the last one begun: its canonical spelling in the session's domain
abbrev pub sent_frames : List End → ℕ → ℕ → Option Message → List Frame
sent_frames ends s k None = []
sent_frames ends s k (Some v) = new_frames ends (canonical v) (RequestOf s k)

abbrev pub sends : Network → NetworkState → ℕ → NetworkState
sends N w s =
    with_frames (with_session w s
    (record (w.session s) { attempts_left = (w.session s).attempts_left - 1 }))
    (sent_frames (peers N.links (AtSession s)) s (length (w.session s).begun)
    (due_message (session_value (N.session s) (w.session s))))

-- ---- a frame comes in at a clock

-- a frame that comes in at a port; a copy of request k of a manager has the index k
abbrev pub index_of : Origin → ℕ
index_of (RequestOf s k) = k
index_of _ = 0

abbrev pub delivery : ℕ → Frame → Delivery
delivery port f = record { ingress = port; datagram = f.octets; index = index_of f.origin }

-- what a clock passes on stays what it was, with one forwarding more
abbrev pub forwarded_frames : Network → ℕ → Frame → List (ℕ × List ℕ) → List Frame
forwarded_frames N c f sent =
    flat_map (λ m. frames_to (peers N.links (AtPort c m.0)) m.1 f.origin f.first_hops
    (f.forwardings + 1)) sent

-- the reply to a copy of a session's request belongs to that request
abbrev pub reply_origin : Origin → Origin
reply_origin (RequestOf s k) = ReplyTo s k
reply_origin _ = Neither

abbrev pub reply_frames : Network → ℕ → Origin → List (ℕ × List ℕ) → List Frame
reply_frames N c origin sent =
    flat_map (λ m. new_frames (peers N.links (AtPort c m.0)) m.1 origin) sent

-- a request of sdoId 0 in the clock's domain, not from it and addressed to it, that is not numbered
abbrev pub is_read : Clock → DataSetsValue → Message → Bool
is_read c d v =
    v.sdo == 0 && (v.domain == d.default.domain
    && (not (is_own c v) && (is_addressed c d v && (is_request v && not (is_numbered c v)))))

-- the messages of the reply to a request that is not numbered
abbrev pub read_messages : Clock → DataSetsValue → ℕ → Option Message → List (ℕ × List ℕ)
read_messages c d ingress None = []
read_messages c d ingress (Some v) =
    if is_read c d v then rendered c.identity (heard_of v) (read_reply_to (request_of v) d) ingress
    else []

-- a numbered copy is answered by the reply that is due to it, any other delivery by what it reads
abbrev pub answer_messages : Clock → History → ℕ → List ℕ → Option RequestCopy → List (ℕ × List ℕ)
answer_messages c h ingress octets (Some copy) = due_messages c copy (due_reply c h copy)
answer_messages c h ingress octets None = read_messages c h.sets ingress (message_of octets)

-- the reply to a numbered copy belongs to the copy's request, any other to nothing
abbrev pub answer_origin : Origin → Option RequestCopy → Origin
answer_origin o (Some copy) = reply_origin o
answer_origin o None = Neither

abbrev pub answering_frames : Network → ℕ → History → ℕ → Frame → Option RequestCopy → List Frame
answering_frames N c h port f copy =
    reply_frames N c (answer_origin f.origin copy)
    (answer_messages (N.clock c) h port f.octets copy)

-- all frames that a clock makes of one that comes in: those that it passes on, then its replies
abbrev pub made_frames : Network → ℕ → History → ℕ → Frame → List Frame
made_frames N c h port f =
    forwarded_frames N c f (forwarded (N.clock c).identity port h.sets f.octets)
    ++ answering_frames N c h port f (copy_of (N.clock c) (ports N c) (delivery port f))

abbrev pub arrives : NetworkState → ℕ → Delivery → NetworkState
arrives w c x = record w { arrivals = with_place w.arrivals c (w.arrivals c ++ x ∷ []) }

abbrev pub delivered_at_clock : Network → NetworkState → ℕ → ℕ → Frame → NetworkState
delivered_at_clock N w c port f =
    with_frames (arrives w c (delivery port f)) (made_frames N c (history N w c) port f)

-- ---- a frame comes in at a session

-- it is a reply to the session's last request, which is not answered yet
abbrev pub is_answer : ℕ → SessionState → Origin → Bool
is_answer s state (ReplyTo t k) = t == s && (k == length state.begun && not (is_idle state))
is_answer s state _ = false

-- what a message says of the last request, if it is in the session's domain
abbrev pub told_by : SessionState → Option Message → Option Report
told_by state None = None
told_by state (Some v) =
    if v.domain == state.domain
    then Some (record { index = length state.begun; outcome = outcome_in v.body }) else None

abbrev pub report_from : ℕ → SessionState → Frame → Option Report
report_from s state f =
    if is_answer s state f.origin then told_by state (message_of f.octets) else None

abbrev pub reported : SessionState → Option Report → SessionState
reported state None = state
reported state (Some report) = record state { reports = state.reports ++ report ∷ [] }

abbrev pub delivered_at_session : NetworkState → ℕ → Frame → NetworkState
delivered_at_session w s f =
    with_session w s (reported (w.session s) (report_from s (w.session s) f))

-- ---- one event

abbrev pub delivered_at : Network → NetworkState → Frame → End → NetworkState
delivered_at N w f (AtPort c port) = delivered_at_clock N w c port f
delivered_at N w f (AtSession s) = delivered_at_session w s f

abbrev pub delivered : Network → NetworkState → Option Frame → NetworkState
delivered N w None = w
delivered N w (Some f) = delivered_at N w f f.end

-- a copy of a frame, on its way to an end; it belongs to what the frame belongs to
abbrev pub to_end : End → Option Frame → List Frame
to_end end None = []
to_end end (Some f) = record f { end = end } ∷ []

-- a stranger's datagram belongs to nothing
abbrev pub strange_frame : ℕ → ℕ → List ℕ → Frame
strange_frame c port datagram = record {
  end = AtPort c port;
  octets = datagram;
  origin = Neither;
  first_hops = boundary_hops datagram;
  forwardings = 0;
}

unfoldable pub happens : Network → NetworkState → Event → NetworkState
happens N w (Begin s a) = with_session w s (begun_in (N.session s) (w.session s) (ask.request_of a))
happens N w (Send s) = sends N w s
happens N w (Resume s attempts) = with_session w s (record (w.session s) { attempts_left = attempts })
happens N w (Retune s domain) = with_session w s (record (w.session s) { domain = domain })
happens N w (Deliver n) = delivered N w (frame_at w.frames n)
happens N w (Replay n end) = with_frames w (to_end end (frame_at w.frames n))
happens N w (Stranger c port datagram) =
    delivered_at_clock N w c port (strange_frame c port datagram)

-- a refused event changes nothing
abbrev pub step_by : Option Refusal → Network → NetworkState → Event → NetworkState
step_by None N w e = happens N w e
step_by (Some refused) N w e = w

abbrev pub step : Network → NetworkState → Event → NetworkState
step N w e = step_by (refusal N w e) N w e

-- a whole schedule
abbrev pub run : Network → NetworkState → List Event → NetworkState
run N w [] = w
run N w (e ∷ es) = run N (step N w e) es

-- where these events lead from the initial state
abbrev pub state_after : Network → List Event → NetworkState
state_after N events = run N (initial_state N) events

-- the events of a schedule up to the first that is refused
abbrev pub taken : Network → NetworkState → List Event → List Event
taken N w [] = []
taken N w (e ∷ es) = if is_none (refusal N w e) then e ∷ taken N (step N w e) es else []

abbrev pub is_late_frame : NetworkState → Option Frame → Bool
is_late_frame w None = false
is_late_frame w (Some f) = is_late w f.origin

-- the delivery of a late frame
abbrev pub is_late_delivery : NetworkState → Event → Bool
is_late_delivery w (Deliver n) = is_late_frame w (frame_at w.frames n)
is_late_delivery w _ = false

-- no delivery of the schedule is late; one that is refused is no delivery
abbrev pub AreInTime : Network → NetworkState → List Event → Type 0
AreInTime N w [] = Unit {0}
AreInTime N w (e ∷ es) = (refusal N w e ≡ None → is_late_delivery w e ≡ false)
    × AreInTime N (step N w e) es
