-- Events at a clock and at a session: what the world becomes, and what is answered.
use Rattle.ptpm_world.proofs.Common.{arith, ◌≡◌, ℕ, ◌<◌, ◌&&◌, not, List, ◌++◌, Some, None, Ok, Err, true, false, sym, ◌∙◌, ap, length, nat_lt, nat_le, and_from, and_left, and_right, cond-true, cond-false, le-ltb, lt-ltb, slice_get_within, flat_map, map, slice_get, DataSetsValue, has_port, State, turn, Deliver, Stranger, NoSuchFrame, frames_limit, frame_at, is_forged, no_port, Held, delivers, held, network_event, takes_turn, turn_frames, Network, origin_by, posted_by, Frame, World, RunningClock, held_in, link_ends, IsOf, agent_clock, agent_state, running, IsStep, [], ◌∷◌, Option, Result, OnOk, OnErr, IfOk, IfErr, is_some, if◌then◌else◌, refl, subst, option_map, append-nil, slice_set, Report, SessionValue, begin_refusal, due_message, send_refusal, Begin, Send, BeginRefused, SendRefused, Refusal, Done, Happened, acts, hears, posted, reaches, sends_in, sent_posted, unless_refused, with_session_value, AtSession, peers, RequestOf, StepError, Took, RunningSession, reports_of, session_of, begin_error, error_of, heard, reports_in}
use Rattle.std.proofs.Math.Nat.{le_refl}
use Rattle.ptpm_agent.specs.Agent.{IsTurned}
use Rattle.ptpm_agent.specs.declared.verdict.Verdict.{Verdict}
use Rattle.ptpm_network.proofs.Posting.{held-turn_frames}
use Rattle.ptpm_agent.proofs.Lists.{state_after}
use Rattle.ptpm_agent.proofs.Turns.{turn-ports}
use Rattle.ptpm_world.specs.declared.took.Took.TheVariants.{AtClock, Fine}
use Rattle.ptpm_network.specs.Events.{Event, no_session}
use Rattle.ptpm_world.proofs.Changing.{ClockChange, clock_change-network, clock_change-running, SessionChange, running_by, session_change-network, session_change-none, session_change-quiet, session_change-running, read-kept}
use Rattle.ptpm_world.proofs.Ending.{step_fine, step_refused, full, skips, stops, absent, delivered, roomy, step_memory}
use Rattle.ptpm_codec.specs.declared.message.Message.{Message}
use Rattle.ptpm_codec.specs.Canonical.{canonical}
use Rattle.ptpm_data.specs.Request.{RequestValue}
use Rattle.ptpm_manager.specs.declared.ask.Ask.{Ask}
use Rattle.ptpm_manager.specs.declared.error.BeginError.{BeginError}
use Rattle.ptpm_manager.specs.declared.error.SendError.{SendError}
use Rattle.ptpm_manager.specs.declared.receiving.Received.{Received}
use Rattle.ptpm_manager.specs.Receiving.{left_by, received_of}
use Rattle.ptpm_manager.specs.Session.{sent}
use Rattle.ptpm_manager.specs.Setup.{request_message}
use Rattle.ptpm_network.specs.Network.{End}
use Rattle.ptpm_network.proofs.Worth.{session-named}
use Rattle.ptpm_world.specs.declared.took.StepError.TheVariants as errors
use Rattle.ptpm_manager.specs.declared.error.BeginError.TheVariants as begins
use Rattle.ptpm_manager.specs.declared.error.SendError.TheVariants as sends
use Rattle.ptpm_manager.specs.declared.receiving.Received.TheVariants as received

-- ---- events at a clock: what the world becomes, and what is answered

-- ---- a turn

module _ (N : Network) (old new : World) (c port : ℕ) (x y : RunningClock) (f : Frame) (verdict : Verdict) (out : List (ℕ × List ℕ)) (is : IsOf N old) (change : ClockChange old new c x y) (turned : IsTurned (turn (agent_clock x.agent) (agent_state x.agent) port f.octets) verdict out (agent_state y.agent)) where
  there : IsTurned (turn (N.clock c) ((running old).clock c) port f.octets) verdict out
      (agent_state y.agent)
  there = grind arith

  frames_after : flat_map
      (posted_by (link_ends old.links.items) c port f.origin (origin_by verdict f.origin))
      out
      ≡ map held (turn_frames N ((running old).clock c) c port f)
  frames_after = grind (arith, flat_map, there, held-turn_frames)

  -- an event that gives the clock this turn
  pub turn-step : (e : Event)
      → held_in new.frames
      ≡ held_in old.frames
      ++ flat_map
      (posted_by (link_ends old.links.items) c port f.origin (origin_by verdict f.origin))
      out
      → network_event N (running old) e ≡ Ok (takes_turn N (running old) c port f)
      → IsStep N old new e (Ok (AtClock verdict))
  turn-step e sent happens =
      let s : State = (running old).clock c in
      step_fine N old new e (takes_turn N (running old) c port f) (AtClock verdict) happens
      (clock_change-running old new c x y (turn (N.clock c) s port f.octets).next (held_in old.frames ++ map held (turn_frames N s c port f)) change
      (state_after (turn (N.clock c) s port f.octets) verdict out (agent_state y.agent) there)
      (sent ∙ ap (λ (hs : List Held). held_in old.frames ++ hs) frames_after))
      (ap AtClock there.verdict_is) (clock_change-network N old new c x y change is)

-- the clock has as many ports as before
pub ports_after : (x y : RunningClock) (port : ℕ) (octets : List ℕ) (verdict : Verdict)
    (out : List (ℕ × List ℕ))
    → IsTurned (turn (agent_clock x.agent) (agent_state x.agent) port octets) verdict out
    (agent_state y.agent)
    → length y.agent.sets.ports ≡ length x.agent.sets.ports
ports_after x y port octets verdict out turned = ap (λ (d : DataSetsValue). length d.ports) turned.sets_are ∙ turn-ports (agent_clock x.agent) (agent_state x.agent) port octets

-- ---- a frame comes in

pub deliver-no_frame : (N : Network) (old new : World) (n : ℕ)
    → IsOf N new
    → frame_at (held_in old.frames) n ≡ None
    → IsStep N old new (Deliver n) (Err errors.NoSuchFrame)
unfolding network_event
deliver-no_frame N old new n is e = step_refused N old new (Deliver n) NoSuchFrame (ap (delivers N (running old)) e) is

pub deliver-too_many : (N : Network) (old new : World) (n : ℕ) (h : Held)
    → IsOf N new
    → frame_at (held_in old.frames) n ≡ Some h
    → nat_lt frames_limit (length (held_in old.frames)) ≡ true
    → IsStep N old new (Deliver n) (Err errors.FramesAtMaximum)
unfolding network_event
deliver-too_many N old new n h is e over = grind (arith, step_refused, stops, full)

-- ---- a stranger

has_port-same : (port : ℕ) (d e : DataSetsValue)
    → length d.ports ≡ length e.ports
    → has_port port d ≡ has_port port e
has_port-same port d e same = ap (λ n. nat_le 1 port && nat_le port n) same

-- the clock at a place has the ports of the network's
pub port_there : (N : Network) (w : World) (c port : ℕ) (x : RunningClock)
    → IsOf N w
    → slice_get w.clocks.items c ≡ Some x
    → has_port port x.agent.sets ≡ true
    → no_port N c port ≡ None
port_there N w c port x is at has =
    let within : c < N.clocks = grind (arith, slice_get_within) in
    let there = and_from (nat_lt c N.clocks) (has_port port (N.start c)) (lt-ltb c N.clocks within) (sym (has_port-same port x.agent.sets (N.start c) (is.clocks c x at).ports) ∙ has) in
    cond-false _ _ _ (ap not there)

pub stranger-no_clock : (N : Network) (w : World) (c port : ℕ) (datagram : List ℕ)
    → IsOf N w
    → c ≡ length w.clocks.items
    → IsStep N w w (Stranger c port datagram) (Err errors.NoSuchName)
unfolding network_event
stranger-no_clock N w c port datagram is e = grind (arith, step_refused, stops, le_refl, cond-true, and_left, le-ltb)

module _ (N : Network) (old new : World) (c port : ℕ) (x : RunningClock) (datagram : List ℕ) (is : IsOf N old) (is_new : IsOf N new) (at : slice_get old.clocks.items c ≡ Some x) where
  pub stranger-no_port : has_port port x.agent.sets ≡ false
      → IsStep N old new (Stranger c port datagram) (Err errors.NoSuchName)
  unfolding network_event
  stranger-no_port lacks = grind (arith, step_refused, stops, cond-true, and_right, has_port-same)

  pub stranger-forges : has_port port x.agent.sets ≡ true
      → is_forged N datagram ≡ true
      → IsStep N old new (Stranger c port datagram) (Err errors.Forged)
  unfolding network_event
  stranger-forges has lies = grind (arith, step_refused, skips, port_there, stops, cond-true)

  pub stranger-too_many : has_port port x.agent.sets ≡ true
      → is_forged N datagram ≡ false
      → nat_lt frames_limit (length (held_in old.frames)) ≡ true
      → IsStep N old new (Stranger c port datagram) (Err errors.FramesAtMaximum)
  unfolding network_event
  stranger-too_many has honest over = grind (arith, step_refused, skips, port_there, cond-false, stops, full)

-- ---- events at a session: what the world becomes, and what is answered

-- ---- a name that no session has

pub no_name : (N : Network) (w : World) (s : ℕ) (e : Event) (x : Result Happened Refusal)
    → IsOf N w
    → s ≡ length w.sessions.items
    → network_event N (running w) e ≡ unless_refused (no_session N s) x
    → IsStep N w w e (Err errors.NoSuchName)
no_name N w s e x is past at = grind (arith, step_refused, stops, absent, le_refl)

-- ---- a session that is there, and what it becomes

module _ (N : Network) (old new : World) (place : ℕ) (x y : RunningSession) (is : IsOf N old) (c : SessionChange old new place x y) where
  session_is : (running old).session place ≡ x.session
  session_is = ap session_of c.at

  session_there : no_session N place ≡ None
  session_there = session-named N place (subst (λ n. place < n) is.session_count (slice_get_within old.sessions.items place x c.at))

  changed : IsOf N new
  changed = session_change-network N old new place x y c is

  -- ---- begin, resume and retune: the session becomes another, and nothing else happens

  pub acts-fine : (e : Event) (why : SessionValue → Option Refusal) (change : SessionValue → SessionValue)
      → network_event N (running old) e
      ≡ acts N (running old) place (why ((running old).session place)) (change ((running old).session place))
      → why x.session ≡ None
      → y.session ≡ change x.session
      → y.reports.items ≡ x.reports.items
      → held_in new.frames ≡ held_in old.frames
      → IsStep N old new e (Ok Fine)
  acts-fine e why change at none v r f =
      let value : SessionValue = change ((running old).session place) in
      step_fine N old new e (record { deed = Done; network = with_session_value (running old) place value }) Fine
      (at ∙ skips (no_session N place) _ _ session_there (skips (why ((running old).session place)) _ _ (ap why session_is ∙ none) refl))
      (session_change-quiet old new place x y value (held_in old.frames) c (v ∙ ap change (sym session_is)) r f) refl changed

  pub acts-refused : (e : Event) (why : SessionValue → Option Refusal) (value : SessionValue) (reason : Refusal)
      → network_event N (running old) e
      ≡ acts N (running old) place (why ((running old).session place)) value
      → why x.session ≡ Some reason
      → IsStep N old new e (Err (error_of reason))
  acts-refused e why value reason at some = grind (arith, step_refused, skips, session_there, stops, session_is, changed)

  -- by the session's error, which is want of memory or why it refuses
  pub begin-error : (a : Ask) (e : BeginError)
      → ((e ≡ begins.OutOfMemory → ⊥) → begin_refusal x.session a ≡ Some e)
      → IsStep N old new (Begin place a) (Err (begin_error e))
  unfolding network_event
  begin-error a begins.OutOfMemory h = step_memory N old new (Begin place a) changed
  begin-error a e h =
      acts-refused (Begin place a) (λ z. option_map BeginRefused (begin_refusal z a)) _ (BeginRefused e) refl (ap (option_map BeginRefused) (h (λ q. absurd (cc))))

  -- ---- send

  -- it is sent, or why not
  send-judged : (o : Option SendError) (z : Result Happened Refusal)
      → nat_lt frames_limit (length (held_in old.frames)) ≡ false
      → send_refusal x.session ≡ o
      → unless_refused (option_map SendRefused o) (Ok (record { deed = Done; network = sends_in N (running old) place })) ≡ z
      → network_event N (running old) (Send place) ≡ z
  unfolding network_event
  send-judged o z room e last = grind (arith, skips, session_there, roomy, option_map, session_is)

  pub send-refused : (e : SendError)
      → nat_lt frames_limit (length (held_in old.frames)) ≡ false
      → send_refusal x.session ≡ Some e
      → IsStep N old new (Send place) (Err (errors.Send e))
  send-refused e room some = step_refused N old new (Send place) (SendRefused e) (send-judged (Some e) _ room some refl) changed

  pub send-fine : (issued : ℕ) (octets : List ℕ) (v : Message)
      → nat_lt frames_limit (length (held_in old.frames)) ≡ false
      → send_refusal x.session ≡ None
      → x.session.issued ≡ issued
      → due_message x.session ≡ Some v
      → octets ≡ canonical v
      → y.session ≡ sent x.session
      → y.reports.items ≡ x.reports.items
      → held_in new.frames
      ≡ held_in old.frames
      ++ posted (peers (link_ends old.links.items) (AtSession place)) octets
      (RequestOf place issued)
      → IsStep N old new (Send place) (Ok Fine)
  send-fine issued octets v room none count due same value r f =
      let s : SessionValue = (running old).session place in
      let frames : List Held = held_in old.frames ++ sent_posted (peers N.links (AtSession place)) place s.issued (due_message s) in
      step_fine N old new (Send place) (record { deed = Done; network = sends_in N (running old) place }) Fine (send-judged None _ room none refl)
      (session_change-quiet old new place x y (sent ((running old).session place)) frames c (value ∙ ap sent (sym session_is)) r (grind (arith, session_is)))
      refl changed

  -- ---- a frame comes in

  hear-goes : (got : Received)
      → y.session ≡ left_by x.session got
      → y.reports.items ≡ x.reports.items ++ reports_in got
      → held_in new.frames ≡ held_in old.frames
      → running new ≡ hears (running old) place got
  hear-goes (received.Answered report) v r f =
      session_change-running old new place x y _ _ (held_in old.frames) c
      (v ∙ ap (λ (z : SessionValue). left_by z (received.Answered report)) (sym session_is))
      (r ∙ ap (λ (z : List Report). z ++ report ∷ []) (sym (ap reports_of c.at))) f
  hear-goes (received.Ignored reason) v r f = session_change-none old new place x y c v (r ∙ append-nil x.reports.items) f

  -- by what the session answers
  pub hear-step : (n : ℕ) (h : Held) (result : Result Took StepError)
      → frame_at (held_in old.frames) n ≡ Some h
      → h.end ≡ AtSession place
      → nat_lt frames_limit (length (held_in old.frames)) ≡ false
      → OnOk result (y.session ≡ left_by x.session (received_of x.session h.octets))
      → OnOk result (y.reports.items ≡ x.reports.items ++ reports_in (received_of x.session h.octets))
      → held_in new.frames ≡ held_in old.frames
      → IfOk result (λ t. t ≡ heard (received_of x.session h.octets))
      → IfErr result (λ e. e ≡ errors.OutOfMemory)
      → IsStep N old new (Deliver n) result
  hear-step n h (Ok t) e at room v r f told memory =
      let same : received_of x.session h.octets ≡ received_of ((running old).session place) h.octets = grind (arith, session_is) in
      step_fine N old new (Deliver n) (reaches N (running old) h (AtSession place)) t
      (delivered N (running old) n h e room ∙ ap (λ (end : End). Ok (reaches N (running old) h end)) at)
      (hear-goes (received_of x.session h.octets) v r f ∙ ap (hears (running old) place) same) (told ∙ ap heard same) changed
  hear-step n h (Err why) e at room v r f told memory = grind (arith, step_memory, changed)

-- ---- too many frames, and what is sent

pub send-too_many : (N : Network) (old new : World) (place : ℕ)
    → IsOf N old
    → IsOf N new
    → place < length old.sessions.items
    → nat_lt frames_limit (length (held_in old.frames)) ≡ true
    → IsStep N old new (Send place) (Err errors.FramesAtMaximum)
unfolding network_event
send-too_many N old new place is is_new within over = grind (arith, step_refused, skips, session-named, stops, full)

-- a session that may send has a request
unanswered-by : (u : Option RequestValue) (more : Option SendError)
    → (if not (is_some u) then Some sends.Idle else more) ≡ None
    → (q : RequestValue) × (u ≡ Some q)
unanswered-by None more e = absurd (cc)
unanswered-by (Some q) more e = (q, refl)

pub message_due : (s : SessionValue)
    → send_refusal s ≡ None
    → (v : Message) × (due_message s ≡ Some v)
unfolding send_refusal
message_due s e =
    let q = unanswered-by s.unanswered _ e in
    (request_message s.setup s.domain s.issued q.0, ap (option_map (request_message s.setup s.domain s.issued)) q.1)

pub hear-unchanged : (w : World) (place : ℕ) (x y : RunningSession) (frames : List Held)
    (result : Result Took StepError)
    → slice_get w.sessions.items place ≡ Some x
    → frames ≡ held_in w.frames
    → OnErr result ((y.session ≡ x.session) × (y.reports.items ≡ x.reports.items))
    → OnErr result
    (running_by w.clocks.items (slice_set w.sessions.items place y) frames ≡ running w)
hear-unchanged w place x y frames (Ok t) at kept same = tt
hear-unchanged w place x y frames (Err e) at kept same = λ i. record {
  clock = (running w).clock;
  session = λ s. read-kept session_of w.sessions.items place x y at same.0 s i;
  reports = λ s. read-kept reports_of w.sessions.items place x y at same.1 s i;
  frames = kept i;
}
