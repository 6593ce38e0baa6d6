-- A session knows the answer to its request by octets as the machine knows it by origins.
use Rattle.ptpm_network.proofs.Common.{by_test, arith, ◌≡◌, ℕ, ◌<◌, ◌≤◌, ◌+◌, ◌==◌, List, Option, Some, None, Result, Ok, Err, true, false, refl, sym, ◌∙◌, ap, subst, and_from, and_parts, cond-true, cond-false, eq-eqb, eqb-true, ltb-false, not-true, or_left, or_right, true≢false, false≢true, is_some, DecodeError, Message, action_of, id_of, message_of, reading, same_identity-refl, same_identity-true, same_clock-refl, same_clock-true, message_of-reading, reading-message_of, Report, answer_by, answer_to, is_content, reason_of, received_of, outcome_in, SessionValue, is_waiting, number_of, IsOfOrigin, IsReached, is_answer, report_from, told_by, IsNetwork, Network, SessionStart, manager, Frame, NetworkState, Origin, RequestOf, ReplyTo, Neither, SessionState, accepted_at_target, is_idle, is_late, issued, session_value, ◌-◌, [], ◌∷◌, ◌++◌, length, length-append, ne_eqb, map-append, PortIdentity, RequestValue, answered, begun, RunningNetwork, hears, sends_in, with_session_value, begun_in, reported, sends, with_session, Stands, unanswered, at_place, at_places, get_last, le_trans}
use Rattle.ptpm_manager.specs.declared.receiving.Reason.{Reason}
use Rattle.ptpm_manager.proofs.ReplyLaws.{IsAccepted, is_accepted, no_reason}
use Rattle.ptpm_network.proofs.Frames.{SaysReply, heard-frame, same_read, says_reply, IsTrueTo, heard-true}
use Rattle.ptpm_network.proofs.Messages.{action_of-answer_body, answer_body-is_reply, reply_at}
use Rattle.ptpm_network.proofs.Reaching.{no_report, told-message, reports_of_frame, reached}
use Rattle.ptpm_network.proofs.Lists.{and_first, and_rest}
use Rattle.ptpm_manager.specs.declared.receiving.Received.{Received}
use Rattle.ptpm_network.proofs.Held.{held-sent_frames}
use Rattle.ptpm_network.proofs.Steps.{InStep}
use Rattle.ptpm_manager.specs.declared.receiving.Received.TheVariants as received

-- ---- the reply to the unanswered request passes them

abbrev message_said : (N : Network) (w : NetworkState) (s k : ℕ) (octets : List ℕ)
    → SaysReply N s k (w.session s).begun (accepted_at_target N w s) octets
    → Message
message_said N w s k octets says = reply_at (N.session s).setup.target says.heard says.entry.reply says.ingress says.hops says.answer

module _ (N : Network) (w : NetworkState) (s k : ℕ) (octets : List ℕ) (says : SaysReply N s k (w.session s).begun (accepted_at_target N w s) octets) where
  content-said : is_content (Some says.entry.request) (action_of (message_said N w s k octets says).body)
      (id_of (message_said N w s k octets says).body) ≡ true
  content-said = grind (arith, action_of-answer_body, and_from, eq-eqb, true≢false)

answer-accepted : (N : Network) (w : NetworkState) (s : ℕ) (octets : List ℕ)
    (says : SaysReply N s (issued w s) (w.session s).begun (accepted_at_target N w s) octets)
    → is_idle (w.session s) ≡ false → says.heard.domain == (w.session s).domain ≡ true
    → IsAccepted (session_value (N.session s) (w.session s)) (message_said N w s (issued w s) octets says)
answer-accepted N w s octets says busy domain = grind (arith, cond-false, answer_body-is_reply, same_identity-refl, and_from, same_clock-refl, eq-eqb, content-said, or_right, or_left)

told-domain : (state : SessionState) (o : Option Message) (v : Message) (r : Report)
    → o ≡ Some v → told_by state o ≡ Some r
    → v.domain == state.domain ≡ true
told-domain state o v r e h = grind (arith, no_report, cond-false)

received-by : (N : Network) (w : NetworkState) (s : ℕ) (octets : List ℕ) (o : Origin) (r : Report)
    → IsNetwork N → IsReached N w → IsOfOrigin N w octets o → is_answer s (w.session s) o ≡ true
    → told_by (w.session s) (message_of octets) ≡ Some r
    → received_of (session_value (N.session s) (w.session s)) octets ≡ received.Answered r
received-by N w s octets (RequestOf t k) r n reached i y e = absurd (false≢true y)
received-by N w s octets Neither r n reached i y e = absurd (false≢true y)
received-by N w s octets (ReplyTo t k) r n reached i y e =
    let ts : t ≡ s = eqb-true t s (search and_first) in
    let last : k ≡ issued w s = eqb-true k (issued w s) (search (and_first, and_rest)) in
    let own : IsOfOrigin N w octets (ReplyTo s (issued w s)) = grind arith in
    let says = says_reply N w s (issued w s) octets n reached own in
    let v : Message = message_said N w s (issued w s) octets says in
    let accepted = answer-accepted N w s octets says (not-true (is_idle (w.session s)) (search (and_first, and_rest))) (told-domain (w.session s) (message_of octets) v r says.message.read e) in
    let value : SessionValue = session_value (N.session s) (w.session s) in
    ap (answer_to value) (reading-message_of octets v says.message.read) ∙ ap (λ (x : Option Reason). answer_by x value v) (no_reason value v accepted)
    ∙ ap received.Answered (sym (told-message (w.session s) (message_of octets) v r says.message.read e))

-- ---- and nothing else does

-- the message that was taken for the answer
pub record Takes (s : SessionValue) (octets : List ℕ) (r : Report) : Type 0 where
  pub message : Message
  pub read : message_of octets ≡ Some message
  pub accepted : IsAccepted s message
  pub is : record { index = s.issued; outcome = outcome_in message.body } ≡ r

takes-message : (s : SessionValue) (octets : List ℕ) (v : Message) (r : Report) (o : Option Reason)
    → reason_of s v ≡ o → message_of octets ≡ Some v → answer_by o s v ≡ received.Answered r
    → Takes s octets r
takes-message s octets v r (Some reason) h e a = absurd (cc)
takes-message s octets v r None h e a = record { message = v; read = e; accepted = is_accepted s v h; is = cc }

pub takes-by : (s : SessionValue) (octets : List ℕ) (r : Report) (o : Result Message DecodeError)
    → reading octets ≡ o → answer_to s o ≡ received.Answered r
    → Takes s octets r
takes-by s octets r (Err cause) h a = absurd (cc)
takes-by s octets r (Ok v) h a = takes-message s octets v r (reason_of s v) refl (message_of-reading octets v h) a

pub not_idle : (start : SessionStart) (s : SessionState)
    → is_waiting (session_value start s) ≡ true
    → is_idle s ≡ false
not_idle start s h = grind (arith, false≢true, is_some, cond-true)

-- it takes nothing for its answer but a reply to itself
pub takes-own : (N : Network) (s : ℕ) (value : SessionValue) (octets : List ℕ) (o : Origin) (r : Report)
    → IsNetwork N → s < N.sessions → value.setup ≡ (N.session s).setup
    → (takes : Takes value octets r) → IsTrueTo N takes.message o
    → (k : ℕ) × (o ≡ ReplyTo s k)
takes-own N s value octets (RequestOf t k) r n place setup takes i = absurd (true≢false (sym takes.accepted.reply ∙ i.request))
takes-own N s value octets (ReplyTo t k) r n place setup takes i =
    let me : manager N t ≡ manager N s = grind (arith, same_identity-true) in
    let clock : (N.session t).setup.target ≡ (N.session s).setup.target = grind (arith, same_clock-true, and_parts) in
    let of = n.are_sessions t i.place in
    let own = n.are_sessions s place in
    let target : (N.session t).target ≡ (N.session s).target =
    n.clocks_apart (N.session t).target (N.session s).target of.exists own.exists (sym of.target ∙ clock ∙ own.target) in
    (k, ap (λ j. ReplyTo j k) (n.sessions_apart t s i.place place me target))
takes-own N s value octets Neither r n place setup takes i = grind (arith, same_clock-true, and_parts, same_identity-true)

-- and that to its last request, if it is not late
pub takes-last : (first k : ℕ) (value : SessionValue) (octets : List ℕ) (r : Report) (takes : Takes value octets r)
    → value.setup.first ≡ first → takes.message.number ≡ number_of first k → 0 < k → k ≤ value.issued
    → value.issued ≤ k + 32768
    → k ≡ value.issued
takes-last first k value octets r takes same number positive within time = grind (arith, eqb-true)

takes-answer : (N : Network) (w : NetworkState) (s : ℕ) (octets : List ℕ) (o : Origin) (r : Report)
    → IsNetwork N → IsReached N w → s < N.sessions → IsOfOrigin N w octets o → is_late w o ≡ false
    → Takes (session_value (N.session s) (w.session s)) octets r
    → is_answer s (w.session s) o ≡ true
takes-answer N w s octets o r n reached place i late takes =
    let value : SessionValue = session_value (N.session s) (w.session s) in
    let own = takes-own N s value octets o r n place refl takes (heard-true N w octets o n reached (heard-frame N w octets o i) takes.message takes.read).1 in
    let k = own.0 in
    let says = says_reply N w s k octets n reached (subst (IsOfOrigin N w octets) own.1 i) in
    let time : issued w s ≤ k + 32768 = grind (arith, ltb-false) in
    let number : takes.message.number ≡ number_of (N.session s).setup.first k = grind (arith, same_read) in
    let last : k ≡ issued w s = grind (arith, takes-last) in grind (arith, and_from, eq-eqb, not_idle)

takes-told : (start : SessionStart) (state : SessionState) (octets : List ℕ) (r : Report)
    → Takes (session_value start state) octets r
    → told_by state (message_of octets) ≡ Some r
takes-told start state octets r takes = grind (arith, cond-true, and_parts)

-- ---- both

pub received-as_reported : (N : Network) (w : NetworkState) (s : ℕ) (f : Frame) (r : Report)
    → IsNetwork N → IsReached N w → s < N.sessions → IsOfOrigin N w f.octets f.origin
    → is_late w f.origin ≡ false
    → (report_from s (w.session s) f ≡ Some r → received_of (session_value (N.session s) (w.session s)) f.octets ≡ received.Answered r) × (received_of (session_value (N.session s) (w.session s)) f.octets ≡ received.Answered r → report_from s (w.session s) f ≡ Some r)
received-as_reported N w s f r n reached place i late = (
  λ e. by_test (is_answer s (w.session s) f.origin)
      (λ y. grind (arith, received-by, cond-true))
      (λ n'. no_report r (sym (cond-false _ _ _ n') ∙ e)),
  λ e.
      let takes = takes-by (session_value (N.session s) (w.session s)) f.octets r (reading f.octets) refl e in
      cond-true _ _ _ (takes-answer N w s f.octets f.origin r n reached place i late takes) ∙ takes-told (N.session s) (w.session s) f.octets r takes,
)

-- ---- a running network after what a session did, or what was reported to it

-- ---- the value of a session

-- one that reported each request begins its next
pub begun-value : (start : SessionStart) (s : SessionState) (q : RequestValue)
    → length s.reports ≤ length s.begun
    → begun (session_value start s) q ≡ session_value start (begun_in start s q)
begun-value start s q le =
    let more : length (s.begun ++ q ∷ []) ≡ length s.begun + 1 = length-append s.begun (q ∷ []) in
    let index : length (s.begun ++ q ∷ []) - 1 ≡ length s.begun = omega (arith, more) in
    let waits : unanswered (begun_in start s q) ≡ Some q = grind (arith, cond-false, ne_eqb, get_last) in grind arith

-- one that heard the answer to its last request waits for none
pub answered-value : (start : SessionStart) (s : SessionState) (report : Report)
    → (length s.reports ≡ length s.begun → ⊥) → length s.begun ≤ length s.reports + 1
    → length s.reports ≤ length s.begun
    → answered (session_value start s) ≡ session_value start (reported s (Some report))
answered-value start s report busy one le = grind (arith, length-append, cond-true, eq-eqb)

-- ---- the network

-- a session that reports nothing has another value
pub session-stands : (N : Network) (first : ℕ → PortIdentity → ℕ) (r : RunningNetwork)
    (w : NetworkState) (s : ℕ) (v : SessionValue) (state : SessionState)
    → Stands N first r w → s < N.sessions → v ≡ session_value (N.session s) state
    → state.reports ≡ (w.session s).reports
    → Stands N first (with_session_value r s v) (with_session w s state)
session-stands N first r w s v state at place value reports = grind (arith, at_places, at_place)

module _ (N : Network) (first : ℕ → PortIdentity → ℕ) (r : RunningNetwork) (w : NetworkState) (s : ℕ) (at : Stands N first r w) where
  pub sends-stand : s < N.sessions → Stands N first (sends_in N r s) (sends N w s)
  sends-stand place = grind (arith, session-stands, held-sent_frames, map-append)
  -- ---- a frame comes in at a session

answered-stands : (N : Network) (first : ℕ → PortIdentity → ℕ) (r : RunningNetwork) (w : NetworkState)
    (s : ℕ) (report : Report)
    → Stands N first r w → s < N.sessions → InStep N w s (w.session s)
    → (length (w.session s).reports ≡ length (w.session s).begun → ⊥)
    → Stands N first (hears r s (received.Answered report))
    (with_session w s (reported (w.session s) (Some report)))
answered-stands N first r w s report at place step busy =
    let le = le_trans step.accepted_before step.begun_before in
    let value = ap answered (at.sessions s place) ∙ answered-value (N.session s) (w.session s) report busy step.one_at_a_time le in grind (arith, at_places)

-- what the session hears of the frame is what the machine reports of it
pub hears-stands : (N : Network) (first : ℕ → PortIdentity → ℕ) (r : RunningNetwork) (w : NetworkState)
    (s : ℕ) (f : Frame) (x : Received) (o : Option Report)
    → IsNetwork N → IsReached N w → Stands N first r w → s < N.sessions
    → IsOfOrigin N w f.octets f.origin → is_late w f.origin ≡ false
    → received_of (session_value (N.session s) (w.session s)) f.octets ≡ x
    → report_from s (w.session s) f ≡ o
    → Stands N first (hears r s x) (with_session w s (reported (w.session s) o))
hears-stands N first r w s f x (Some report) n reached at place i late h e =
    subst (λ (y : Received). Stands N first (hears r s y) (with_session w s (reported (w.session s) (Some report))))
    (sym ((received-as_reported N w s f report n reached place i late).0 e) ∙ h)
    (answered-stands N first r w s report at place (reached.sessions s place) (reports_of_frame N w s f report n reached i e).busy)
hears-stands N first r w s f (received.Answered report) None n reached at place i late h e = no_report report (sym e ∙ (received-as_reported N w s f report n reached place i late).1 h)
hears-stands N first r w s f (received.Ignored reason) None n reached at place i late h e = grind (arith, at_place)
