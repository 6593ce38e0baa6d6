-- Every event keeps the invariant, and so it holds after every schedule.
use Rattle.ptpm_network.proofs.Common.{expected_ports, arith, ◌≡◌, ℕ, ◌<◌, ◌^◌, nat_lt, not, List, [], ◌∷◌, Option, Some, None, true, refl, subst, length, and_parts, cond-true, cond-false, eqb-true, eqb-false, leb-true, ltb-true, not-false, not-true, same_Some, nat_le, AllByRecursion, first_of-none, option_or-none, Message, message_of, kept_reply, Ask, Report, ask_refusal, outcome_in, begin_refusal, BeginRefused, Begin, Replay, no_end, no_frame, to_end, End, Deliver, Event, Forged, IsInRange, NoSuchName, Resume, Retune, Send, Stranger, begin_refused, forged, frame_at, is_forged, no_port, no_room, no_session, refusal, IsAsked, IsFrame, IsOfOrigin, IsReached, delivered, happens, is_answer, report_from, reported, run, step, strange_frame, told_by, with_session, AtPort, AtSession, HasEnd, IsNetwork, Network, manager, Frame, NetworkState, Origin, RequestOf, ReplyTo, Neither, SessionState, accepted_at_target, initial_state, issued, session_value, frame_at-all, get_append, le_trans, octet, delivered_at_clock}
use Rattle.ptpm_network.proofs.Accepting.{IsToldOf, in_step-begun, in_step-reported}
use Rattle.ptpm_network.proofs.Frames.{heard-frame, says_reply, IsHeard}
use Rattle.ptpm_network.proofs.Messages.{reply_at}
use Rattle.ptpm_network.proofs.Refusals.{asked-not_refused, begin-not_refused, idle-not_waiting, option_map-none, strange-message}
use Rattle.ptpm_network.proofs.Steps.{more-frames, sends-reached, session-changes, session-set}
use Rattle.ptpm_network.proofs.Answering.{delivered_at_clock-reached}
use Rattle.ptpm_network.specs.Machine.{delivered_at_session}
use Rattle.ptpm_network.proofs.Lists.{and_first, and_rest}
use Rattle.ptpm_manager.specs.Ask as ask

-- ---- a frame comes in at a session

-- what is reported is what was kept for the last request
pub record Reports (N : Network) (w : NetworkState) (s : ℕ) (report : Report) : Type 0 where
  pub busy : length (w.session s).reports ≡ length (w.session s).begun → ⊥
  pub told : IsToldOf (manager N s) (issued w s) (accepted_at_target N w s) report

pub no_report : {X : Type 0} (r : Report) → None ≡ Some r → X
no_report r e = absurd (cc)

pub told-message : (state : SessionState) (o : Option Message) (v : Message) (r : Report)
    → o ≡ Some v → told_by state o ≡ Some r
    → r ≡ record { index = length state.begun; outcome = outcome_in v.body }
told-message state o v r e h = grind (arith, same_Some, no_report)

reports-by : (N : Network) (w : NetworkState) (s : ℕ) (octets : List ℕ) (o : Origin) (r : Report)
    → IsNetwork N → IsReached N w → IsOfOrigin N w octets o → is_answer s (w.session s) o ≡ true
    → told_by (w.session s) (message_of octets) ≡ Some r
    → Reports N w s r
reports-by N w s octets (RequestOf t k) r n reached i y e = absurd (cc)
reports-by N w s octets Neither r n reached i y e = absurd (cc)
reports-by N w s octets (ReplyTo t k) r n reached i y e =
    let says = says_reply N w t k octets n reached i in
    let ts : t ≡ s = eqb-true t s (search and_first) in
    let last : k ≡ issued w s = eqb-true k (issued w s) (search (and_first, and_rest)) in
    let told = told-message (w.session s) (message_of octets) (reply_at (N.session t).setup.target says.heard says.entry.reply says.ingress says.hops says.answer) r says.message.read e in
    let kept : kept_reply (manager N s) k (accepted_at_target N w s) ≡ Some says.entry = grind arith in grind (arith, eqb-false, not-true, and_first, and_rest)

pub reports_of_frame : (N : Network) (w : NetworkState) (s : ℕ) (f : Frame) (r : Report)
    → IsNetwork N → IsReached N w → IsOfOrigin N w f.octets f.origin
    → report_from s (w.session s) f ≡ Some r
    → Reports N w s r
reports_of_frame N w s f r n reached i e = grind (arith, reports-by, cond-true, no_report, cond-false)

reported-reached : (N : Network) (w : NetworkState) (s : ℕ) (f : Frame) (o : Option Report)
    → IsNetwork N → IsReached N w → s < N.sessions → IsOfOrigin N w f.octets f.origin
    → report_from s (w.session s) f ≡ o
    → IsReached N (with_session w s (reported (w.session s) o))
reported-reached N w s f None n r place i e = session-changes N w s (w.session s) (λ j q h. h) (r.sessions s place) r
reported-reached N w s f (Some report) n r place i e =
    let p = reports_of_frame N w s f report n r i e in
    session-changes N w s (reported (w.session s) (Some report)) (λ j q h. h)
    (in_step-reported (manager N s) (expected_ports N s) (accepted_at_target N w s) (w.session s) (issued w s) report refl p.busy p.told (r.sessions s place)) r

-- ---- what an event comes to

pub after-step : (P : NetworkState → Type 0) (N : Network) (w : NetworkState) (e : Event)
    → P w → (refusal N w e ≡ None → P (happens N w e))
    → P (step N w e)
after-step P N w e old new = grind arith

module _ (P : NetworkState → Type 0) (N : Network) (w : NetworkState) where
  -- a frame comes in, at a clock or at a session, or there is none
  pub after-delivery : (k : ℕ)
      → P w
      → ((f : Frame) → frame_at w.frames k ≡ Some f → (c port : ℕ) → f.end ≡ AtPort c port → P (delivered_at_clock N w c port f))
      → ((f : Frame) → frame_at w.frames k ≡ Some f → (s : ℕ) → f.end ≡ AtSession s → P (delivered_at_session w s f))
      → P (delivered N w (frame_at w.frames k))
  after-delivery k old clock session = grind arith

pub frame_at-is : (N : Network) (w : NetworkState) (k : ℕ) (f : Frame) → IsReached N w → frame_at w.frames k ≡ Some f → IsFrame N w f
frame_at-is N w k f r e = frame_at-all (IsFrame N w) w.frames k f r.frames e

-- ---- any event

pub session-exists : (N : Network) (s : ℕ) → no_session N s ≡ None → s < N.sessions
session-exists N s e = ltb-true s N.sessions (not-false _ (first_of-none (not (nat_lt s N.sessions)) NoSuchName [] e).0)

pub port-exists : (N : Network) (c port : ℕ) → no_port N c port ≡ None → HasEnd N (AtPort c port)
port-exists N c port e = grind (arith, and_parts, nat_lt, not-false, first_of-none, nat_le, ltb-true, leb-true)

pub end-exists : (N : Network) (end : End) → no_end N end ≡ None → HasEnd N end
end-exists N (AtPort c port) e = port-exists N c port e
end-exists N (AtSession s) e = session-exists N s e

-- a frame that is replayed at an end says what it said
replayed-frames : (N : Network) (w : NetworkState) (end : End) (k : ℕ) (o : Option Frame)
    → IsReached N w → HasEnd N end → frame_at w.frames k ≡ o
    → AllByRecursion (IsFrame N w) (to_end end o)
replayed-frames N w end k None r there e = tt
replayed-frames N w end k (Some f) r there e =
    let is = frame_at-is N w k f r e in (record { end = there; origin = is.origin; hops = is.hops }, tt)

begins-reached : (N : Network) (w : NetworkState) (s : ℕ) (a : Ask)
    → IsNetwork N → IsReached N w → s < N.sessions → a.id < 2 ^ 16 → begin_refused N w s a ≡ None
    → IsReached N (happens N w (Begin s a))
unfolding happens
begins-reached N w s a n r place id e =
    let at = r.sessions s place in
    let parts = begin-not_refused (session_value (N.session s) (w.session s)) a (option_map-none BeginRefused (begin_refusal (session_value (N.session s) (w.session s)) a) e) in
    let idle = idle-not_waiting (N.session s) (w.session s) (le_trans at.accepted_before at.begun_before) parts.0 in
    let asked : IsAsked (expected_ports N s) (ask.request_of a) =
    asked-not_refused (expected_ports N s) a (n.are_sessions s place).few_ports id parts.1 in
    session-changes N w s _ (λ i q h. grind (arith, get_append))
    (in_step-begun (manager N s) (expected_ports N s) (accepted_at_target N w s) (w.session s) (ask.request_of a) (N.session s).setup.attempts asked (eqb-true _ _ idle) at) r

-- a stranger's datagram that is not forged says nothing of a session
pub strange-says : (N : Network) (w : NetworkState) (datagram : List ℕ)
    → ((place : ℕ) → octet place datagram < 256) → forged N datagram ≡ None
    → IsHeard N w datagram Neither
strange-says N w datagram octets fine v e = strange-message N datagram v octets (first_of-none (is_forged N datagram) Forged [] fine).0 e

-- and one that is not refused comes in at a port that is there
pub strange-comes : (N : Network) (w : NetworkState) (c port : ℕ) (datagram : List ℕ)
    → IsInRange (Stranger c port datagram) → refusal N w (Stranger c port datagram) ≡ None
    → HasEnd N (AtPort c port) × IsHeard N w datagram Neither
unfolding refusal
strange-comes N w c port datagram octets none =
    let p = option_or-none (no_port N c port) _ none in
    (port-exists N c port p.0, strange-says N w datagram octets (option_or-none (forged N datagram) (no_room w.frames) p.1).0)

happens-reached : (N : Network) (w : NetworkState) (e : Event)
    → IsNetwork N → IsReached N w → IsInRange e → refusal N w e ≡ None
    → IsReached N (happens N w e)
unfolding refusal happens
happens-reached N w (Begin s q) n r i e = grind (arith, option_or-none, begins-reached, session-exists)
happens-reached N w (Send s) n r i e = sends-reached N w s n (session-exists N s (option_or-none (no_session N s) _ e).0) r
happens-reached N w (Resume s attempts) n r i e = session-set N w s (w.session s).domain attempts (session-exists N s (option_or-none (no_session N s) _ e).0) r
happens-reached N w (Retune s domain) n r i e = session-set N w s domain (w.session s).attempts_left (session-exists N s e) r
happens-reached N w (Deliver k) n r i e =
    after-delivery (IsReached N) N w k r
    (λ f at c port end. let is = frame_at-is N w k f r at in
    delivered_at_clock-reached N w c port f n r (subst (HasEnd N) end is.end) (heard-frame N w f.octets f.origin is.origin) is.hops)
    (λ f at s end. let is = frame_at-is N w k f r at in reported-reached N w s f (report_from s (w.session s) f) n r (subst (HasEnd N) end is.end) is.origin refl)
happens-reached N w (Replay k end) n r i e =
    let p = option_or-none (no_frame (frame_at w.frames k)) _ e in
    let q = option_or-none (no_end N end) (no_room w.frames) p.1 in
    more-frames N w _ (replayed-frames N w end k (frame_at w.frames k) r (end-exists N end q.0) refl) r
happens-reached N w (Stranger c port datagram) n r i e =
    let there = strange-comes N w c port datagram i e in
    delivered_at_clock-reached N w c port (strange_frame c port datagram) n r there.0 there.1 (omega arith)

pub step-reached : (N : Network) (w : NetworkState) (e : Event) → IsNetwork N → IsInRange e → IsReached N w → IsReached N (step N w e)
step-reached N w e n i r = after-step (IsReached N) N w e r (happens-reached N w e n r i)

pub run-reached : (N : Network) (w : NetworkState) (es : List Event)
    → IsNetwork N → AllByRecursion IsInRange es → IsReached N w
    → IsReached N (run N w es)
run-reached N w [] n i r = r
run-reached N w (e ∷ es) n i r = run-reached N (step N w e) es n i.1 (step-reached N w e n i.0 r)

-- ---- the first state

pub first-reached : (N : Network) → IsNetwork N → IsReached N (initial_state N)
first-reached N n = record {
  sessions = grind arith;
  clocks = λ c place. (n.are_clocks c place).start;
  frames = tt;
}

-- ---- what the invariant says of a schedule

pub reached : (N : Network) (es : List Event)
    → IsNetwork N → AllByRecursion IsInRange es
    → IsReached N (run N (initial_state N) es)
reached N es n i = run-reached N (initial_state N) es n i (first-reached N n)
