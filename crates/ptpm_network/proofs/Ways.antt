-- Worked ways: that what the law of one copy each way asks for is met, and an exchange that it speaks of.
use Rattle.ptpm_network.proofs.Common.{by_test, ◌≡◌, ℕ, List, [], ◌∷◌, Option, Some, None, refl, true, false, map, replicate, arith, ◌||◌, sym, ◌∙◌, ap, ◌++◌, ◌==◌, slice_set, if◌then◌else◌, or_left, true≢false, ClockIdentity, PortIdentity, same_identity, number_at, port_identity_at, octet, port_identity_octets, tlv_octets, body_at, message_of, frame_refusal, tlv_refusal, text_refusal, row_of, set_of, clock_field_of, row_refusal, is_set_length, is_set_value, answer, reply_of, reply_to, read_reply_to, changed_by, set_members, forwarded, same_identity-refl, same_identity-true, is_known, Accepted, rendered, Ask, ask_refusal, target_port, begin_refusal, send_refusal, IsNetwork, End, AtPort, AtSession, Network, SessionStart, Frame, NetworkState, Origin, RequestOf, ReplyTo, initial_state, history, is_late_at, Event, Begin, Send, Resume, Retune, Deliver, Stranger, Refusal, NoSuchName, NoSuchFrame, Forged, BeginRefused, SendRefused, refusal, happens, run, RequestValue, IsForOne, same_Some, subst, inl, Hop, IsAnswerable, IsWay}
use Rattle.ptpm_data.specs.Start.{default_clock, default_port, started}
use Rattle.ptpm_data.specs.Rights.{all_rights}
use Rattle.ptpm_codec.specs.Layout.{clock_identity_at}
use Rattle.ptpm_manager.specs.Ask.{request_of}
use Rattle.ptpm_network.proofs.Answerable.{answerable}
use Rattle.ptpm_codec.specs.declared.message.Action.TheVariants as actions
use Rattle.ptpm_manager.specs.declared.error.BeginError.TheVariants as begins
use Rattle.ptpm_manager.specs.declared.error.SendError.TheVariants as sends
use Rattle.ptpm_manager.specs.declared.report.Outcome.TheVariants as outcomes

-- ---- worked schedules: what the machine makes of them

-- ---- one clock of two ports, and one session at its port 1, which takes it to have eight

abbrev clock_k : ClockIdentity
clock_k = record { 0 = 0xaa ∷ 0xbb ∷ 0xcc ∷ 0xff ∷ 0xfe ∷ 0xdd ∷ 0xee ∷ 0x01 ∷ [] }

abbrev manager_m : PortIdentity
manager_m = record { clock = record { 0 = 0x00 ∷ 0x11 ∷ 0x22 ∷ 0x33 ∷ 0x44 ∷ 0x55 ∷ 0x66 ∷ 0x77 ∷ [] }; port = 1 }

abbrev session_to : ClockIdentity → ℕ → ℕ → ℕ → SessionStart
session_to target ports first hops = record {
  setup = record { me = manager_m; target = target; ports = ports; first = first; hops = hops; attempts = 2 };
  target = 0;
  domain = 0;
}

abbrev pub one_clock : Network
one_clock = record {
  clocks = 1;
  clock = λ c. record { identity = clock_k; managers = manager_m ∷ []; rights = λ m. all_rights };
  start = λ c. started (default_clock clock_k 0) (default_port ∷ default_port ∷ []);
  sessions = 1;
  session = λ s. session_to clock_k 8 7 1;
  links = (AtPort 0 1 ∷ AtSession 0 ∷ []) ∷ [];
}

abbrev pub get_priority1 : Ask
get_priority1 = record { action = actions.Get; id = 0x2005; port = None; octets = [] }

abbrev set_domain : Ask
set_domain = record { action = actions.Set; id = 0x2007; port = None; octets = 0x05 ∷ 0x00 ∷ [] }

-- GET PRIORITY1 with sequenceId 7, hops 1 of 1
abbrev get_octets : List ℕ
get_octets =
    0x0d ∷ 0x12 ∷ 0x00 ∷ 0x36 ∷ replicate 16 0
    ++ 0x00 ∷ 0x11 ∷ 0x22 ∷ 0x33 ∷ 0x44 ∷ 0x55 ∷ 0x66 ∷ 0x77 ∷ 0x00 ∷ 0x01 ∷ 0x00 ∷ 0x07 ∷ 0x04 ∷ 0x7f ∷ []
    ++ 0xaa ∷ 0xbb ∷ 0xcc ∷ 0xff ∷ 0xfe ∷ 0xdd ∷ 0xee ∷ 0x01 ∷ 0xff ∷ 0xff ∷ 0x01 ∷ 0x01 ∷ 0x00 ∷ 0x00 ∷ []
    ++ 0x00 ∷ 0x01 ∷ 0x00 ∷ 0x02 ∷ 0x20 ∷ 0x05 ∷ []

abbrev sent_once : NetworkState
sent_once = run one_clock (initial_state one_clock) (Begin 0 get_priority1 ∷ Send 0 ∷ [])

-- the request goes to the other end of the session's link
first_script-sent : sent_once.frames
    ≡ record
    { end = AtPort 0 1; octets = get_octets; origin = RequestOf 0 1; first_hops = 1; forwardings = 0 } ∷ []
unfolding refusal happens begin_refusal send_refusal ask_refusal target_port row_of port_identity_octets tlv_octets
first_script-sent = refl

abbrev by_whom : Accepted → PortIdentity × ℕ
by_whom a = (a.manager, a.index)

-- a copy of it joins at the clock once, however often it is delivered
first_script-accepted : map by_whom
    (history one_clock (run one_clock sent_once (Deliver 1 ∷ Deliver 1 ∷ [])) 0).accepted
    ≡ (manager_m, 1) ∷ []
unfolding refusal happens begin_refusal send_refusal ask_refusal target_port row_of port_identity_octets tlv_octets message_of frame_refusal tlv_refusal text_refusal body_at number_at port_identity_at clock_identity_at changed_by row_refusal forwarded answer clock_field_of reply_of reply_to read_reply_to rendered
first_script-accepted = refl

-- the clock's RESPONSE: priority1 is 128
abbrev reply_octets : List ℕ
reply_octets =
    0x0d ∷ 0x12 ∷ 0x00 ∷ 0x38 ∷ replicate 16 0
    ++ 0xaa ∷ 0xbb ∷ 0xcc ∷ 0xff ∷ 0xfe ∷ 0xdd ∷ 0xee ∷ 0x01 ∷ 0x00 ∷ 0x01 ∷ 0x00 ∷ 0x07 ∷ 0x04 ∷ 0x7f ∷ []
    ++ 0x00 ∷ 0x11 ∷ 0x22 ∷ 0x33 ∷ 0x44 ∷ 0x55 ∷ 0x66 ∷ 0x77 ∷ 0x00 ∷ 0x01 ∷ 0x00 ∷ 0x00 ∷ 0x02 ∷ 0x00 ∷ []
    ++ 0x00 ∷ 0x01 ∷ 0x00 ∷ 0x04 ∷ 0x20 ∷ 0x05 ∷ 0x80 ∷ 0x00 ∷ []

abbrev whole_script : NetworkState
whole_script = run one_clock sent_once (Deliver 1 ∷ Deliver 2 ∷ Deliver 1 ∷ Deliver 3 ∷ [])

-- the request, the reply to it, and the same reply to its repeat
first_script-frames : map (λ f. f.octets) whole_script.frames
    ≡ get_octets ∷ reply_octets ∷ reply_octets ∷ []
unfolding refusal happens begin_refusal send_refusal ask_refusal target_port row_of port_identity_octets tlv_octets message_of frame_refusal tlv_refusal text_refusal body_at number_at port_identity_at clock_identity_at changed_by row_refusal forwarded answer clock_field_of reply_of reply_to read_reply_to rendered
first_script-frames = refl

-- it is reported once
first_script-reports : (whole_script.session 0).reports
    ≡ record { index = 1; outcome = outcomes.Value (0x80 ∷ 0x00 ∷ []) } ∷ []
unfolding refusal happens begin_refusal send_refusal ask_refusal target_port row_of port_identity_octets tlv_octets message_of frame_refusal tlv_refusal text_refusal body_at number_at port_identity_at clock_identity_at changed_by row_refusal forwarded answer clock_field_of reply_of reply_to read_reply_to rendered
first_script-reports = refl

-- ---- it is a network of the laws

abbrev first_octet : ClockIdentity → ℕ
first_octet c = octet 0 c.0

one_known : (m : PortIdentity) → is_known m (manager_m ∷ []) ≡ true → manager_m ≡ m
one_known m y = by_test (same_identity m manager_m)
    (λ h. sym (same_identity-true m manager_m h))
    (λ n. absurd (true≢false (sym y ∙ ap (λ b. b || false) n)))

pub one_clock-IsNetwork : IsNetwork one_clock
one_clock-IsNetwork = grind (arith, or_left, same_identity-refl, one_known)

-- ---- refused events

abbrev refused : List Event → Event → Option Refusal
refused before e = refusal one_clock (run one_clock (initial_state one_clock) before) e

abbrev get_log_sync_interval : Ask
get_log_sync_interval = record { action = actions.Get; id = 0x200b; port = None; octets = [] }

refused_events : map (refused [])
    (Send 0 ∷ Send 1 ∷ Deliver 1 ∷ Stranger 0 1 get_octets ∷ Stranger 0 2 (0 ∷ []) ∷ Begin 0 get_log_sync_interval ∷ Retune 1 0 ∷ Stranger 0 3 [] ∷ Stranger 1 1 [] ∷ []) ≡ Some (SendRefused sends.Idle) ∷ Some NoSuchName ∷ Some NoSuchFrame ∷ Some Forged ∷ None ∷ Some (BeginRefused begins.NeedsPort) ∷ Some NoSuchName ∷ Some NoSuchName ∷ Some NoSuchName ∷ []
unfolding refusal begin_refusal send_refusal ask_refusal row_of number_at port_identity_at clock_identity_at
refused_events = refl

-- no second request while the first is unanswered, and no third sending of it
refused_after : map (refused (Begin 0 get_priority1 ∷ Send 0 ∷ Send 0 ∷ []))
    (Begin 0 get_priority1 ∷ Send 0 ∷ Resume 0 1 ∷ Deliver 0 ∷ Deliver 2 ∷ Deliver 3 ∷ [])
    ≡ Some (BeginRefused begins.Busy) ∷ Some (SendRefused sends.GaveUp) ∷ None ∷ Some NoSuchFrame
    ∷ None ∷ Some NoSuchFrame ∷ []
unfolding refusal happens begin_refusal send_refusal ask_refusal target_port row_of
refused_after = refl

-- ---- a port that the clock lacks

abbrev get_at_port_5 : Ask
get_at_port_5 = record { action = actions.Get; id = 0x200b; port = Some 5; octets = [] }

-- The session asks, since it takes the clock to have eight ports. The clock drops what comes in, and the session waits.
port_5-origins : map (λ f. f.origin) (run one_clock (initial_state one_clock) (Begin 0 get_at_port_5 ∷ Send 0 ∷ Deliver 1 ∷ [])).frames ≡ RequestOf 0 1 ∷ []
unfolding refusal happens begin_refusal send_refusal ask_refusal target_port row_of port_identity_octets tlv_octets message_of frame_refusal tlv_refusal text_refusal body_at number_at port_identity_at clock_identity_at changed_by row_refusal forwarded answer clock_field_of reply_of reply_to read_reply_to rendered
port_5-origins = refl

port_5-accepted : (history one_clock (run one_clock (initial_state one_clock) (Begin 0 get_at_port_5 ∷ Send 0 ∷ Deliver 1 ∷ [])) 0).accepted ≡ []
unfolding refusal happens begin_refusal send_refusal ask_refusal target_port row_of port_identity_octets tlv_octets message_of frame_refusal tlv_refusal text_refusal body_at number_at port_identity_at clock_identity_at changed_by row_refusal forwarded answer clock_field_of reply_of reply_to read_reply_to rendered
port_5-accepted = refl

-- ---- another domain

-- between two sendings of a request its domain changes, and no other octet
retune-sent : map (λ f. f.octets)
    (run one_clock (initial_state one_clock) (Begin 0 get_priority1 ∷ Send 0 ∷ Retune 0 5 ∷ Send 0 ∷ [])).frames ≡ get_octets ∷ slice_set get_octets 4 5 ∷ []
unfolding refusal happens begin_refusal send_refusal ask_refusal target_port row_of port_identity_octets tlv_octets
retune-sent = refl

-- A SET of DOMAIN is answered in the former domain, and its repeat too. Then the clock is heard only in the new one, and a
-- reply in the former one comes too late.
abbrev other_domain : NetworkState
other_domain = run one_clock (initial_state one_clock) (
    Begin 0 set_domain ∷ Send 0 ∷ Deliver 1 ∷ Send 0 ∷ Deliver 3 ∷ Deliver 4
    ∷ Begin 0 get_priority1 ∷ Send 0 ∷ Deliver 5 ∷ Retune 0 5 ∷ Send 0 ∷ Deliver 6 ∷ Deliver 2 ∷ Deliver 7 ∷ [])

retune-reports : (other_domain.session 0).reports
    ≡ record { index = 1; outcome = outcomes.Value (0x05 ∷ 0x00 ∷ []) } ∷ record
    { index = 2; outcome = outcomes.Value (0x80 ∷ 0x00 ∷ []) } ∷ []
unfolding refusal happens begin_refusal send_refusal ask_refusal target_port row_of port_identity_octets tlv_octets message_of frame_refusal tlv_refusal text_refusal body_at number_at port_identity_at clock_identity_at changed_by row_refusal is_set_length is_set_value set_of set_members forwarded answer clock_field_of reply_of reply_to read_reply_to rendered
retune-reports = refl

retune-domain : (history one_clock other_domain 0).sets.default.domain ≡ 5
unfolding refusal happens begin_refusal send_refusal ask_refusal target_port row_of port_identity_octets tlv_octets message_of frame_refusal tlv_refusal text_refusal body_at number_at port_identity_at clock_identity_at changed_by row_refusal is_set_length is_set_value set_of set_members forwarded answer clock_field_of reply_of reply_to read_reply_to rendered
retune-domain = refl

retune-frames : map (λ f. octet 4 f.octets) other_domain.frames ≡ 0 ∷ 0 ∷ 0 ∷ 0 ∷ 0 ∷ 5 ∷ 5 ∷ []
unfolding refusal happens begin_refusal send_refusal ask_refusal target_port row_of port_identity_octets tlv_octets message_of frame_refusal tlv_refusal text_refusal body_at number_at port_identity_at clock_identity_at changed_by row_refusal is_set_length is_set_value set_of set_members forwarded answer clock_field_of reply_of reply_to read_reply_to rendered
retune-frames = refl

-- ---- a ring of three clocks

-- clock n of the ring, at place n
abbrev clock_of : ℕ → ClockIdentity
clock_of c = record { 0 = 0xaa ∷ 0xbb ∷ 0xcc ∷ 0xff ∷ 0xfe ∷ 0xdd ∷ 0xee ∷ c ∷ [] }

-- The session is at port 1 of clock 0, whose ports 2 and 3 lead to clocks 1 and 2. These are linked by their ports 2.
abbrev pub ring_of_three_clocks : Network
ring_of_three_clocks = record {
  clocks = 3;
  clock = λ c. record { identity = clock_of c; managers = if c == 1 then manager_m ∷ [] else []; rights = λ m. all_rights };
  start = λ c. started (default_clock (clock_of c) 0) (replicate (if c == 0 then 3 else 2) default_port);
  sessions = 1;
  session = λ s. record { setup = record { me = manager_m; target = clock_of 1; ports = 2; first = 7; hops = 2; attempts = 2 }; target = 1; domain = 0 };
  links = (AtPort 0 1 ∷ AtSession 0 ∷ []) ∷ (AtPort 0 2 ∷ AtPort 1 1 ∷ []) ∷ (AtPort 0 3 ∷ AtPort 2 1 ∷ []) ∷ (AtPort 1 2 ∷ AtPort 2 2 ∷ []) ∷ [];
}

abbrev pub in_ring : List Event → NetworkState
in_ring es = run ring_of_three_clocks (initial_state ring_of_three_clocks) es

-- end, boundaryHops, forwardings and origin
abbrev seen : Frame → End × ℕ × ℕ × Origin
seen f = (f.end, octet 45 f.octets, f.forwardings, f.origin)

-- Clock 0 passes the request on at ports 2 and 3. Clock 2 passes its copy on at port 2, with no hop left. Clock 1 replies at
-- its port 2, at which the copy came in, with as many hops as the copy had lost.
ring_of_three_clocks-frames : map seen
    (in_ring (Begin 0 get_priority1 ∷ Send 0 ∷ Deliver 1 ∷ Deliver 3 ∷ Deliver 4 ∷ [])).frames
    ≡ (AtPort 0 1, 2, 0, RequestOf 0 1) ∷ (AtPort 1 1, 1, 1, RequestOf 0 1)
    ∷ (AtPort 2 1, 1, 1, RequestOf 0 1) ∷ (AtPort 1 2, 0, 2, RequestOf 0 1)
    ∷ (AtPort 2 2, 2, 0, ReplyTo 0 1) ∷ []
unfolding refusal happens begin_refusal send_refusal ask_refusal target_port row_of port_identity_octets tlv_octets message_of frame_refusal tlv_refusal text_refusal body_at number_at port_identity_at clock_identity_at changed_by row_refusal forwarded answer clock_field_of reply_of reply_to read_reply_to rendered
ring_of_three_clocks-frames = refl

-- both ways it comes to clock 1, which accepts it once
ring_of_three_clocks-accepted : map by_whom
    (history ring_of_three_clocks (in_ring (Begin 0 get_priority1 ∷ Send 0 ∷ Deliver 1 ∷ Deliver 2 ∷ Deliver 3 ∷ Deliver 4 ∷ [])) 1).accepted ≡ (manager_m, 1) ∷ []
unfolding refusal happens begin_refusal send_refusal ask_refusal target_port row_of port_identity_octets tlv_octets message_of frame_refusal tlv_refusal text_refusal body_at number_at port_identity_at clock_identity_at changed_by row_refusal forwarded answer clock_field_of reply_of reply_to read_reply_to rendered
ring_of_three_clocks-accepted = refl

-- ---- lateness

-- a copy of request 1 is late from request 32,770 on
late_copy : (is_late_at 1 32769 ≡ false) × (is_late_at 1 32770 ≡ true)
late_copy = (refl, refl)

-- a GET of PRIORITY1 is for no port
of_no_port : (q : RequestValue) → Some (request_of get_priority1) ≡ Some q → IsForOne 2 q
unfolding target_port row_of
of_no_port q e = subst (λ (x : RequestValue). IsForOne 2 x) (same_Some (request_of get_priority1) q e) (λ is. absurd (true≢false (sym is)))

-- the session on the link of its clock's port 1 has begun a GET, and can be answered with no clock between
one_clock-answerable : IsAnswerable one_clock
    (run one_clock (initial_state one_clock) (Begin 0 get_priority1 ∷ [])) 0 [] 1
unfolding refusal happens begin_refusal ask_refusal target_port row_of
one_clock-answerable =
    answerable one_clock (Begin 0 get_priority1 ∷ []) 0 [] 1 2 one_clock-IsNetwork (omega arith, tt) (omega arith) refl (omega arith)
    (record { leads = record { there = refl; back = refl }; passes = tt; hops_suffice = omega arith; for_one = λ q e. of_no_port q e; heard = inl refl })
    (omega arith, tt) (omega arith)

-- in the ring a way leads over clock 0, in at port 1 and out at port 2, to port 1 of clock 1
abbrev over_clock_0 : List Hop
over_clock_0 = record { clock = 0; near = 1; far = 2 } ∷ []

ring-way : IsWay ring_of_three_clocks (in_ring (Begin 0 get_priority1 ∷ [])) 0 over_clock_0 1
unfolding refusal happens begin_refusal ask_refusal target_port row_of
ring-way = record {
  leads = grind arith;
  passes = grind arith;
  hops_suffice = omega arith;
  for_one = λ q e. of_no_port q e;
  heard = inl refl;
}

-- sent once, handed in at clock 0, at clock 1, at clock 0 on the way back and at the session: the request is reported
ring-reports : ((in_ring (Begin 0 get_priority1 ∷ Send 0 ∷ Deliver 1 ∷ Deliver 2 ∷ Deliver 4 ∷ Deliver 5 ∷ [])).session 0).reports ≡ record { index = 1; outcome = outcomes.Value (0x80 ∷ 0x00 ∷ []) } ∷ []
unfolding refusal happens begin_refusal send_refusal ask_refusal target_port row_of port_identity_octets tlv_octets message_of frame_refusal tlv_refusal text_refusal body_at number_at port_identity_at clock_identity_at changed_by row_refusal forwarded answer clock_field_of reply_of reply_to read_reply_to rendered
ring-reports = refl
