-- What the lines of a trace say of the machine, if no delivery is late.
use Rattle.ptpm_world.proofs.Common.{◌≡◌, ℕ, List, Option, Some, None, refl, ◌∙◌, ap, option_map, SessionValue, PortIdentity, frame_at, StandsAfter, is_late_frame, run, Network, Stands, Held, RunningNetwork, held, Frame, NetworkState, Neither, Origin, ReplyTo, RequestOf, initial_state, is_late, is_late_at, is_late_held, is_late_of, arith, ◌<◌, ◌+◌, ◌++◌, ◌⊎◌, inl, inr, Bool, false, [], ◌∷◌, length, map, Ok, Err, Result, sym, subst, append_assoc, append-nil, length-append, length-map, same_Some, eq-eqb, result_err, AllByRecursion, Report, Deliver, IsInRange, Refusal, Retune, no_room, refusal, AreInTime, is_late_delivery, step, AtSession, HasEnd, Happened, network_after, network_event, Names, placed, placed_all, Played, event_of, played, played_by, unless_fault, line_fault, after, answer, answer_of, error_of, took_of, event_line, event_text}
use Rattle.ptpm_network.specs.Invariant.{IsOfOrigin, IsReached}
use Rattle.ptpm_network.specs.Machine.{state_after}
use Rattle.ptpm_network.proofs.Held.{frame_at-map}
use Rattle.ptpm_network.proofs.Promise.{first_of_sessions, firsts, stands-headline, stands-event, stands-judged, stands-refused}
use Rattle.ptpm_network.proofs.Reaching.{frame_at-is, reached}
use Rattle.std.specs.Prelude.{IfOk, ◌↔◌}
use Rattle.ptpm_network.specs.Events.{Replay, no_end, no_session}
use Rattle.ptpm_network.specs.Network.{End}
use Rattle.ptpm_network.specs.RunningNetwork.{replays}
use Rattle.ptpm_network.proofs.CarriedOut.{if_not_refused}
use Rattle.ptpm_network.proofs.Lists.{with_place-same}
use Rattle.ptpm_network.proofs.Taking.{run-append}
use Rattle.ptpm_script.specs.declared.event.Event.{Event}
use Rattle.ptpm_world.specs.declared.script_error.ScriptError.{ScriptError}
use Rattle.ptpm_world.specs.declared.took.Took.TheVariants.{Answered}
use Rattle.ptpm_world.specs.MachineTrace.{IsMachineTrace, IsReported, Tells, TellsEvent}
use Rattle.ptpm_world.specs.Trace.{is_late_event}
use Rattle.ptpm_network.specs.Events as machine

-- ---- let a running network be where the machine is. A delivery is late by what the network sees if it is late in the machine

late-origin : (N : Network) (first : ℕ → PortIdentity → ℕ) (r : RunningNetwork) (w : NetworkState)
    (octets : List ℕ) (o : Origin)
    → Stands N first r w
    → IsOfOrigin N w octets o
    → is_late_of r o ≡ is_late w o
late-origin N first r w octets (RequestOf s k) at i = ap (λ (v : SessionValue). is_late_at k v.issued) (at.sessions s i.0)
late-origin N first r w octets (ReplyTo s k) at i = ap (λ (v : SessionValue). is_late_at k v.issued) (at.sessions s i.0)
late-origin N first r w octets Neither at i = refl

late-frame : (N : Network) (first : ℕ → PortIdentity → ℕ) (r : RunningNetwork) (w : NetworkState)
    (n : ℕ) (o : Option Frame)
    → IsReached N w
    → Stands N first r w
    → frame_at w.frames n ≡ o → is_late_held r (option_map held o) ≡ is_late_frame w o
late-frame N first r w n None reached at e = refl
late-frame N first r w n (Some f) reached at e = late-origin N first r w f.octets f.origin at (frame_at-is N w n f reached e).origin

pub late-after : (N : Network) (past : List machine.Event) (r : RunningNetwork) (n : ℕ)
    → StandsAfter N past r
    → is_late_held r (frame_at r.frames n)
    ≡ is_late_frame (run N (initial_state N) past)
    (frame_at (run N (initial_state N) past).frames n)
late-after N past r n at =
    let p = at.promised in
    let w : NetworkState = run N (initial_state N) past in
    let first : ℕ → PortIdentity → ℕ = first_of_sessions N N.sessions in
    let there = at.stands first (firsts N p.network) in
    ap (λ (hs : List Held). is_late_held r (frame_at hs n)) there.frames
    ∙ ap (is_late_held r) (frame_at-map w.frames n)
    ∙ late-frame N first r w n (frame_at w.frames n) (reached N past p.network p.in_range) there refl

-- its frames are the machine's
pub frame-after : (N : Network) (past : List machine.Event) (r : RunningNetwork) (n : ℕ)
    → StandsAfter N past r
    → frame_at r.frames n ≡ option_map held (frame_at (state_after N past).frames n)
frame-after N past r n at =
    ap (λ (hs : List Held). frame_at hs n) (stands-headline N past r at).frames
    ∙ frame_at-map (state_after N past).frames n

-- ---- what an event that happened did to reports

-- a session took a frame for its answer, and has a report more
record Answers (r : RunningNetwork) (h : Happened) : Type 0 where
  pub session : ℕ
  pub number : ℕ
  pub frame : Held
  pub report : Report
  pub at : frame_at r.frames number ≡ Some frame
  pub end : frame.end ≡ AtSession session
  pub told : took_of h.deed ≡ Answered
  pub more : h.network.reports session ≡ r.reports session ++ report ∷ []

-- or none has
record IsSilent (r : RunningNetwork) (h : Happened) : Type 0 where
  pub other : took_of h.deed ≡ Answered → ⊥
  pub same : h.network.reports ≡ r.reports

abbrev DidTell : RunningNetwork → Happened → Type 0
DidTell r h = Answers r h ⊎ IsSilent r h

replay-told : (N : Network) (r : RunningNetwork) (end : End) (o : Option Held) → IfOk (replays N r o end) (DidTell r)
replay-told N r end None = tt
replay-told N r end (Some h) =
    if_not_refused (no_end N end) _ (DidTell r) (if_not_refused (no_room r.frames) _ (DidTell r) (inr (record { other = λ e. absurd (cc); same = refl })))

event-told : (N : Network) (r : RunningNetwork) (e : machine.Event) → IfOk (network_event N r e) (DidTell r)
unfolding network_event
event-told N r (Deliver n) = grind (arith, if_not_refused, with_place-same, eq-eqb)
event-told N r (Replay n end) = replay-told N r end (frame_at r.frames n)
event-told N r (Retune s domain) = if_not_refused (no_session N s) _ (DidTell r) (inr (record { other = λ e. absurd (cc); same = refl }))
event-told N r e = grind (arith, if_not_refused, option_map)

-- ---- an event's line

-- a running network is where it leads, after it
next-stands : (N : Network) (past : List machine.Event) (r : RunningNetwork) (e : machine.Event)
    (x : Result Happened Refusal)
    → network_event N r e ≡ x
    → StandsAfter N past r
    → IsInRange e
    → (refusal N (state_after N past) e ≡ None → is_late_delivery (state_after N past) e ≡ false)
    → StandsAfter N (past ++ e ∷ []) (network_after r x)
next-stands N past r e (Ok h) is at range time =
    stands-event N past r e h at range is (time (sym (stands-judged N past r e at) ∙ ap (λ (x : Result Happened Refusal). result_err x) is))
next-stands N past r e (Err reason) is at range time =
    stands-refused N past r e reason at range (sym (stands-judged N past r e at) ∙ ap (λ (x : Result Happened Refusal). result_err x) is)

reports-same : (N : Network) (past : List machine.Event) (r : RunningNetwork) (s : ℕ)
    → StandsAfter N past r
    → s < N.sessions
    → r.reports s ≡ ((state_after N past).session s).reports
reports-same N past r s at place = (at.stands (first_of_sessions N N.sessions) (firsts N at.promised.network)).reports s place

module _ (N : Network) (past : List machine.Event) (r : RunningNetwork) (e : machine.Event) (at : StandsAfter N past r) where
  abbrev w : NetworkState
  w = state_after N past

  there : state_after N (past ++ e ∷ []) ≡ step N w e
  there = run-append N (initial_state N) past (e ∷ [])

  -- if no session of the running network has a report more, none of the machine has
  silent : (next : RunningNetwork)
      → StandsAfter N (past ++ e ∷ []) next
      → next.reports ≡ r.reports
      → IsReported N w e
      → ⊥
  silent next after same (s, (place, (report, more))) =
      let before : r.reports s ≡ (w.session s).reports = reports-same N past r s at place in
      let later : next.reports s ≡ ((step N w e).session s).reports = grind (arith, reports-same, there) in
      let grown : (w.session s).reports ≡ (w.session s).reports ++ report ∷ [] = sym before ∙ sym (ap (λ (f : ℕ → List Report). f s) same) ∙ later ∙ more in
      omega (arith, ap length grown, length-append {A = Report})

  -- the session of a frame that is there
  placed_session : (n s : ℕ) (f : Held) → frame_at r.frames n ≡ Some f → f.end ≡ AtSession s → s < N.sessions
  placed_session n s f here end =
      let frames : r.frames ≡ map held w.frames = (stands-headline N past r at).frames in
      by_frame (frame_at w.frames n) refl (sym (frame_at-map w.frames n) ∙ ap (λ (hs : List Held). frame_at hs n) (sym frames) ∙ here)
    where
      by_frame : (o : Option Frame) → frame_at w.frames n ≡ o → option_map held o ≡ Some f → s < N.sessions
      by_frame None is e = absurd (cc)
      by_frame (Some g) is e =
          let has : HasEnd N g.end = (frame_at-is N w n g (reached N past at.promised.network at.promised.in_range) is).end in
          subst (HasEnd N) (ap (λ (h : Held). h.end) (same_Some (held g) f e) ∙ end) has

  told-by : (x : Result Happened Refusal)
      → IfOk x (DidTell r)
      → StandsAfter N (past ++ e ∷ []) (network_after r x)
      → (answer_of x ≡ Ok Answered) ↔ IsReported N w e
  told-by (Err reason) did after = (λ told. absurd (cc), λ more. absurd (silent r after refl more))
  told-by (Ok h) (inr quiet) after =
      (λ told. absurd (quiet.other (cc)), λ more. absurd (silent h.network after quiet.same more))
  told-by (Ok h) (inl a) after =
      let place : a.session < N.sessions = placed_session a.number a.session a.frame a.at a.end in
      let before : r.reports a.session ≡ (w.session a.session).reports = reports-same N past r a.session at place in
      let later : h.network.reports a.session ≡ ((step N w e).session a.session).reports = grind (arith, reports-same, there) in grind (arith)

refused-told : (x : Result Happened Refusal) → result_err (answer_of x) ≡ option_map error_of (result_err x)
refused-told (Ok h) = refl
refused-told (Err reason) = refl

frames-counted : (N : Network) (past : List machine.Event) (r : RunningNetwork)
    → StandsAfter N past r
    → length r.frames ≡ length (state_after N past).frames
frames-counted N past r at = ap length (stands-headline N past r at).frames ∙ length-map (state_after N past).frames held

late-event : (N : Network) (past : List machine.Event) (r : RunningNetwork) (e : machine.Event)
    → StandsAfter N past r
    → is_late_event r e ≡ is_late_delivery (state_after N past) e
late-event N past r (Deliver n) at = late-after N past r n at
late-event N past r e at = refl

-- a refused event's line does not say late
not-late : (number : ℕ) (verb : List ℕ) (x : Result Happened Refusal) (late : Bool) (before after : ℕ)
    → (result_err x ≡ None → late ≡ false)
    → event_text number verb (answer_of x) late before after ≡ event_text number verb (answer_of x) false before after
unfolding event_text
not-late number verb (Ok h) late before after time = ap (λ (l : Bool). event_text number verb (Ok (took_of h.deed)) l before after) (time refl)
not-late number verb (Err reason) late before after time = refl

tells-event : (N : Network) (names : Names) (past : List machine.Event) (r : RunningNetwork) (place : ℕ) (event : Event)
    → StandsAfter N past r
    → IsInRange (placed names event)
    → (refusal N (state_after N past) (placed names event) ≡ None → is_late_delivery (state_after N past) (placed names event) ≡ false)
    → TellsEvent N names (state_after N past) (record { number = place; event = event }) (event_line N names r place event)
tells-event N names past r place event at range time =
    let e : machine.Event = placed names event in
    let w : NetworkState = state_after N past in
    let x : Result Happened Refusal = network_event N r e in
    let next = next-stands N past r e x refl at range time in
    let judged : result_err x ≡ refusal N w e = stands-judged N past r e at in
    let made : length (after N r e).frames ≡ length (step N w e).frames =
    frames-counted N (past ++ e ∷ []) (after N r e) next ∙ ap (λ (v : NetworkState). length v.frames) (run-append N (initial_state N) past (e ∷ [])) in
    record {
      answer = answer N r e;
      refused = refused-told x ∙ ap (option_map error_of) judged;
      answered = told-by N past r e at x (event-told N r e) next;
      line_is = grind (arith, not-late, late-event, frames-counted);
    }

-- ---- lines, one after another

-- what is played from a network on that is after past events
record IsTold (N : Network) (names : Names) (past : List machine.Event) (p : Played RunningNetwork) (last : RunningNetwork) : Type 0 where
  pub stands : StandsAfter N (past ++ placed_all names p.events) last
  pub told : Tells N names (state_after N past) p.events p.text

abbrev IsToldFrom : Network → Names → RunningNetwork → Played RunningNetwork → Type 0
IsToldFrom N names r p = (past : List machine.Event) (last : RunningNetwork)
    → p.end ≡ Ok last
    → AllByRecursion IsInRange (placed_all names p.events)
    → StandsAfter N past r
    → AreInTime N (state_after N past) (placed_all names p.events)
    → IsTold N names past p last

by-fault : (N : Network) (names : Names) (r : RunningNetwork) (f : Option ScriptError) (p : Played RunningNetwork)
    → IsToldFrom N names r p
    → IsToldFrom N names r (unless_fault f p)
by-fault N names r None p h = h
by-fault N names r (Some f) p h = λ past last e range at time. absurd (cc)

by-event : (N : Network) (names : Names) (r : RunningNetwork) (place : ℕ) (x : Result (Option Event) ScriptError)
    (others : RunningNetwork → Played RunningNetwork)
    → ((next : RunningNetwork) → IsToldFrom N names next (others next))
    → IsToldFrom N names r (played_by x N names r place others)
by-event N names r place (Err f) others h = λ past last e range at time. absurd (cc)
by-event N names r place (Ok None) others h = h r
by-event N names r place (Ok (Some event)) others h = λ past last end range at time.
    let e : machine.Event = placed names event in
    let rest = others (after N r e) in
    let w : NetworkState = state_after N past in
    let there : state_after N (past ++ e ∷ []) ≡ step N w e = run-append N (initial_state N) past (e ∷ []) in
    let next = next-stands N past r e (network_event N r e) refl at range.0 time.0 in
    let more = h (after N r e) (past ++ e ∷ []) last end range.1 next (subst (λ (v : NetworkState). AreInTime N v (placed_all names rest.events)) (sym there) time.1) in
    record {
      stands = grind (arith, append_assoc);
      told = grind (arith, tells-event, there);
    }

lines-told : (N : Network) (names : Names) (number place : ℕ) (lines : List (List ℕ × List ℕ)) (r : RunningNetwork)
    → IsToldFrom N names r (played N names r number place lines)
lines-told N names number place [] r = grind (arith, append-nil)
lines-told N names number place (line ∷ lines) r =
    by-fault N names r (line_fault number line)
    (played_by (event_of place line.0) N names r place (λ next. played N names next (number + 1) (place + 1) lines))
    (by-event N names r place (event_of place line.0) (λ next. played N names next (number + 1) (place + 1) lines)
    (λ next. lines-told N names (number + 1) (place + 1) lines next))

-- from the start on
pub machine-trace : (N : Network) (names : Names) (number place : ℕ) (lines : List (List ℕ × List ℕ)) (r last : RunningNetwork)
    → (played N names r number place lines).end ≡ Ok last
    → AllByRecursion IsInRange (placed_all names (played N names r number place lines).events)
    → StandsAfter N [] r
    → AreInTime N (initial_state N) (placed_all names (played N names r number place lines).events)
    → IsMachineTrace N names (played N names r number place lines).events (played N names r number place lines).text last
machine-trace N names number place lines r last end range at time =
    let p = lines-told N names number place lines r [] last end range at time in
    record {
      stands = p.stands;
      headline = stands-headline N (placed_all names (played N names r number place lines).events) last p.stands;
      told = p.told;
    }
