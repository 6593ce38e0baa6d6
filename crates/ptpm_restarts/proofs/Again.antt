-- A request that was under way when its session or others crashed is answered along a way by sending it again.
use Rattle.ptpm_network.proofs.Common.{arith, ◌≡◌, ℕ, ◌+◌, ◌<◌, ◌≤◌, ◌==◌, true, false, List, [], ◌∷◌, ◌++◌, map, length, length-append, length-map, Option, Some, None, option_map, refl, sym, ◌∙◌, ap, subst, eqb-true, eq-eqb, true≢false, cond-true, cond-false, option_or-none, is_some, Ok, result_err, slice_get-map, slice_get, all_append, AllByRecursion, Contains, PortIdentity, SessionValue, Report, is_waiting, Event, Deliver, Send, Refusal, IsInRange, frame_at, frames_limit, no_room, refusal, step, step_by, run, is_late_delivery, is_late_at, sends_in, unanswered, at_place, is_late_frame, initial_state, End, AtPort, AtSession, IsNetwork, Network, Held, Happened, RunningNetwork, held, network_event, reaches, StandsAfter, AreFirsts, Stands, Frame, Neither, Origin, ReplyTo, RequestOf, NetworkState, is_idle, is_late, issued, session_value, IsFrame, IsOfOrigin, IsReached, ComeIn, handed_in, Hop, IsAnswerable, IsWay, LinksHaveAtMost, made_each_way}
use Rattle.std.proofs.lemmas.Option.{slice_get-get_or}
use Rattle.std.proofs.lemmas.List.Elements.{Contains-append_cases, Contains-push_cases}
use Rattle.ptpm_network.specs.RunningNetwork.{Done}
use Rattle.ptpm_network.proofs.Answerable.{answerable-alone, answerable-at}
use Rattle.ptpm_network.proofs.Held.{frame_at-map}
use Rattle.ptpm_network.proofs.RoundTrip.{way-stays}
use Rattle.ptpm_network.proofs.Promise.{first_of_sessions, firsts}
use Rattle.ptpm_network.proofs.Reaching.{frame_at-is, step-reached, reached}
use Rattle.ptpm_network.proofs.Receiving.{not_idle}
use Rattle.ptpm_network.proofs.Running.{follows}
use Rattle.ptpm_network.proofs.Steps.{frames-stay}
use Rattle.ptpm_restarts.specs.AsIfNever.{AreTimely, IsAsIfNever, IsTimely, is_late_held, is_late_in, never_crashed}
use Rattle.ptpm_restarts.specs.GoingOn.{IsAnsweredAgain, StandsWithFewer, handed_in_saved, save_at}
use Rattle.ptpm_restarts.specs.Incidents.{Happens, Incident, SaveClock, after_incidents, comes_in, delivered, incident, refused, saves_clock}
use Rattle.ptpm_restarts.specs.Restarting.{RestartingNetwork, SessionLog, held_frames, running, waiting_at, waiting_elsewhere, with_log}
use Rattle.ptpm_restarts.specs.Storage.{Stored, saved}
use Rattle.ptpm_restarts.proofs.AtOnce.{Is, comes-once, held-sent, refused-as, sends-once, unless-none}
use Rattle.ptpm_restarts.proofs.Beside.{here}
use Rattle.ptpm_restarts.proofs.Sent.{all-appended, all-at, all-elsewhere, all-split, all_contains, no_one}
use Rattle.ptpm_restarts.proofs.Steps.{clear, contains-at, passes, some-of}
use Rattle.ptpm_restarts.proofs.Worth.{delivers-to}

-- ---- at which state a network that was restarted is

record Chosen (P : Frame → Type 0) (ws : List Frame) (hs : List Held) : Type 0 where
  pub frames : List Frame
  pub fewer : AllByRecursion (Contains ws) frames
  pub each : AllByRecursion P frames
  pub same : hs ≡ map held frames

-- each of these is one of those
chosen : (P : Frame → Type 0) (ws : List Frame) (hs : List Held)
    → AllByRecursion P ws → AllByRecursion (Contains (map held ws)) hs
    → Chosen P ws hs
chosen P ws [] all of = record { frames = []; fewer = tt; each = tt; same = refl }
chosen P ws (x ∷ hs) all ((i, below, is), of) =
    let rest = chosen P ws hs all of in
    let at : option_map held (slice_get ws i) ≡ Some x = sym (slice_get-map held ws i) ∙ slice_get-get_or (map held ws) i x below ∙ ap (λ (y : Held). Some y) is in
    let f = some-of (slice_get ws i) x at in
    let has = contains-at ws i f.0 f.1 in
    record {
      frames = f.0 ∷ rest.frames;
      fewer = (has, rest.fewer);
      each = (all_contains P ws f.0 all has, rest.each);
      same = ap (λ (y : Held). y ∷ hs) (sym f.2) ∙ ap (λ (ys : List Held). held f.0 ∷ ys) rest.same;
    }

record GoesOn (N : Network) (w : NetworkState) (k : RestartingNetwork) : Type 0 where
  pub frames : List Frame
  pub fewer : AllByRecursion (Contains w.frames) frames
  pub reached : IsReached N (record w { frames = frames })
  pub stands : (first : ℕ → PortIdentity → ℕ) → AreFirsts N first → Stands N first (running k) (record w { frames = frames })

-- it is at the state of a network that never crashes if it is as that one, and its frames are some of those
goes-on : (N : Network) (events : List Event) (r : RunningNetwork) (k : RestartingNetwork)
    → StandsAfter N events r → record (running k) { frames = r.frames } ≡ r → AllByRecursion (Contains r.frames) k.frames
    → GoesOn N (run N (initial_state N) events) k
goes-on N events r k at same frames =
    let w : NetworkState = run N (initial_state N) events in
    let known = reached N events at.promised.network at.promised.in_range in
    let all : r.frames ≡ map held w.frames = (at.stands (first_of_sessions N N.sessions) (firsts N at.promised.network)).frames in
    let some = chosen (IsFrame N w) w.frames k.frames known.frames (subst (λ (fs : List Held). AllByRecursion (Contains fs) k.frames) all frames) in
    let u : NetworkState = record w { frames = some.frames } in
    record {
      frames = some.frames;
      fewer = some.fewer;
      reached = record { sessions = known.sessions; clocks = known.clocks; frames = frames-stay N w u (λ s i q e. e) (λ s j e place is. is) some.frames some.each };
      stands = λ first given.
          let there : Stands N first (record (running k) { frames = r.frames }) w = subst (λ (x : RunningNetwork). Stands N first x w) (sym same) (at.stands first given) in
          record { clocks = there.clocks; sessions = there.sessions; reports = there.reports; frames = some.same };
    }

pub stands-fewer : (N : Network) (is : List Incident) (k : RestartingNetwork) (a : IsAsIfNever N is k)
    → StandsWithFewer N (run N (initial_state N) a.events) (running k)
stands-fewer N is k a =
    let on = goes-on N a.events (never_crashed N a.events) k a.stands a.same (all-split (Contains (never_crashed N a.events).frames) k.frames k.waiting a.frames).0 in
    record { frames = on.frames; fewer = on.fewer; stands = on.stands }

-- ---- one incident after another

pub after-append : (N : Network) (k : RestartingNetwork) (is js : List Incident)
    → after_incidents N k (is ++ js) ≡ after_incidents N (after_incidents N k is) js
after-append N k [] js = refl
after-append N k (i ∷ is) js = after-append N (incident N k i) is js

pub timely-append : (N : Network) (k : RestartingNetwork) (is js : List Incident)
    → AreTimely N k is → AreTimely N (after_incidents N k is) js
    → AreTimely N k (is ++ js)
timely-append N k [] js front rest = rest
timely-append N k (i ∷ is) js front rest = (front.0, timely-append N (incident N k i) is js front.1 rest)

-- ---- once all that waits is saved

abbrev saves : List (ℕ × Held) → List Incident
saves ws = map (λ w. SaveClock w.0) ws

record Saves (N : Network) (P : Held → Type 0) (k : RestartingNetwork) (ws : List (ℕ × Held)) (next : RestartingNetwork) : Type 0 where
  pub clocks : (c : ℕ) → (next.clock c).live ≡ (k.clock c).live
  pub sessions : next.session ≡ k.session
  pub waiting : next.waiting ≡ []
  pub sent : AllByRecursion P next.frames
  pub size : length next.frames ≡ length k.frames + length k.waiting
  pub timely : AreTimely N k (saves ws)

parted : (c : ℕ) (ws : List (ℕ × Held)) → length (waiting_at c ws) + length (waiting_elsewhere c ws) ≡ length ws
parted c [] = refl
parted c (w ∷ ws) = let rest = parted c ws in grind (arith, cond-true, cond-false)

-- who waits at another clock than the first is still there
still-there : (v : ℕ × Held) (ws : List (ℕ × Held)) (w : ℕ × Held) → w.0 == v.0 ≡ false → Contains (v ∷ ws) w → Contains ws w
still-there v ws w n has = grind (arith, eq-eqb, true≢false, Contains-append_cases, Contains-push_cases, no_one)

none-left : (xs : List (ℕ × Held)) → AllByRecursion (Contains []) xs → xs ≡ []
none-left [] all = refl
none-left (x ∷ xs) all = absurd (no_one x all.0)

saves-all : (N : Network) (P : Held → Type 0) (k : RestartingNetwork) (ws : List (ℕ × Held))
    → AllByRecursion P k.frames → AllByRecursion (λ (w : ℕ × Held). P w.1) k.waiting → AllByRecursion (Contains ws) k.waiting
    → Saves N P k ws (after_incidents N k (saves ws))
saves-all N P k [] sent waits all =
    let none = none-left k.waiting all in
    record { clocks = λ c. refl; sessions = refl; waiting = none; sent = sent; size = omega (arith, ap length none); timely = tt }
saves-all N P k (v ∷ ws) sent waits all =
    let next : RestartingNetwork = saves_clock k v.0 in
    let rest = saves-all N P next ws
    (all_append P k.frames (waiting_at v.0 k.waiting) sent (all-at (λ (w : ℕ × Held). P w.1) P v.0 k.waiting (λ w y p. p) waits))
    (all-elsewhere (λ (w : ℕ × Held). P w.1) (λ (w : ℕ × Held). P w.1) v.0 k.waiting (λ w n p. p) waits)
    (all-elsewhere (Contains (v ∷ ws)) (Contains ws) v.0 k.waiting (still-there v ws) all) in
    record {
      clocks = λ c. rest.clocks c ∙ grind (arith, eqb-true);
      sessions = rest.sessions;
      waiting = rest.waiting;
      sent = rest.sent;
      size = omega (arith, rest.size, length-append k.frames (waiting_at v.0 k.waiting), parted v.0 k.waiting);
      timely = (tt, rest.timely);
    }

-- ---- one copy each way

-- it is at this state, and no frame waits
record IsAt (N : Network) (k : RestartingNetwork) (u : NetworkState) : Type 0 where
  pub reached : IsReached N u
  pub waiting : k.waiting ≡ []
  pub stands : Stands N (first_of_sessions N N.sessions) (running k) u

module _ (N : Network) (n : IsNetwork N) (k : RestartingNetwork) (u : NetworkState) (at : IsAt N k u) where
  refused-there : (e : Event) → refused N k e ≡ refusal N u e
  refused-there e = refused-as N k at.waiting e ∙ (follows N (first_of_sessions N N.sessions) (running k) u n at.reached at.stands e).reason

  begun-here : (s : ℕ) → s < N.sessions → (k.session s).live.session.issued ≡ issued u s
  begun-here s place = ap (λ (v : SessionValue). v.issued) (at.stands.sessions s place)

  timely-here : (octets : List ℕ) (q : Origin) → IsOfOrigin N u octets q → is_late u q ≡ false → is_late_in k q ≡ false
  timely-here octets (RequestOf s j) (place, says) t = ap (is_late_at j) (begun-here s place) ∙ t
  timely-here octets (ReplyTo s j) (place, says) t = ap (is_late_at j) (begun-here s place) ∙ t
  timely-here octets Neither says t = refl

  -- an event that is not refused leads to the same state
  goes-there : (e : Event) (next : RestartingNetwork) (h : Happened)
      → IsInRange e → refusal N u e ≡ None → is_late_delivery u e ≡ false
      → network_event N (running k) e ≡ Ok h → Is k next h.network
      → IsAt N next (step N u e)
  goes-there e next h range none late ok is = record {
    reached = step-reached N u e n range at.reached;
    waiting = is.waiting;
    stands = subst (λ (x : RunningNetwork). Stands N (first_of_sessions N N.sessions) x (step N u e)) (sym is.running)
        (subst (Stands N (first_of_sessions N N.sessions) h.network) (sym (ap (λ (o : Option Refusal). step_by o N u e) none))
        ((follows N (first_of_sessions N N.sessions) (running k) u n at.reached at.stands e).next h ok (firsts N n) range late));
  }

-- a session sends if nothing refuses that
sends-ok : (N : Network) (r : RunningNetwork) (s : ℕ)
    → result_err (network_event N r (Send s)) ≡ None
    → network_event N r (Send s) ≡ Ok (record { deed = Done; network = sends_in N r s })
unfolding network_event
sends-ok N r s e = grind (arith, clear, passes)

record Handed (N : Network) (k : RestartingNetwork) (u : NetworkState) (ds : List (ℕ × End)) : Type 0 where
  pub timely : AreTimely N k (handed_in_saved ds)
  pub at : IsAt N (after_incidents N k (handed_in_saved ds)) (run N u (handed_in ds))

handed : (N : Network) (n : IsNetwork N) (k : RestartingNetwork) (u : NetworkState) (ds : List (ℕ × End))
    → IsAt N k u → ComeIn N u ds
    → Handed N k u ds
handed N n k u [] at come = record { timely = tt; at = at }
handed N n k u (d ∷ ds) at come =
    let c = come.0 in
    let x : Held = held c.frame in
    let here' : frame_at k.frames d.0 ≡ Some x = ap (λ (fs : List Held). frame_at fs d.0) at.stands.frames ∙ frame_at-map u.frames d.0 ∙ ap (option_map held) c.is in
    let none : refused N k (Deliver d.0) ≡ None = refused-there N n k u at (Deliver d.0) ∙ c.not_refused in
    let next : RestartingNetwork = incident N (incident N k (Happens (Deliver d.0))) (save_at d.1) in
    let is : incident N (comes_in N k x c.frame.end) (save_at c.frame.end) ≡ next =
    ap (λ (e : End). incident N (comes_in N k x c.frame.end) (save_at e)) c.at_end
    ∙ ap (λ (j : RestartingNetwork). incident N j (save_at d.1)) (sym (unless-none (refused N k (Deliver d.0)) k (delivered N k (frame_at k.frames d.0)) none ∙ ap (delivered N k) here')) in
    let room : no_room k.frames ≡ None = ap no_room (sym (held-sent N k at.waiting)) ∙ (option_or-none _ (no_room (held_frames k)) none).1 in
    let on = goes-there N n k u at (Deliver d.0) next (reaches N (running k) x c.frame.end) tt c.not_refused (ap (is_late_frame u) c.is ∙ c.in_time)
    (delivers-to N (running k) d.0 x c.frame.end here' refl room)
    (subst (λ (j : RestartingNetwork). Is k j (reaches N (running k) x c.frame.end).network) is (comes-once N k at.waiting x c.frame.end)) in
    let rest = handed N n next (step N u (Deliver d.0)) ds on come.1 in
    record {
      timely = (λ fine. ap (is_late_held k) here' ∙ timely-here N n k u at c.frame.octets c.frame.origin (frame_at-is N u d.0 c.frame at.reached c.is).origin c.in_time, (by_end d.1, rest.timely));
      at = rest.at;
    }
  where
    by_end : (e : End) → IsTimely N (incident N k (Happens (Deliver d.0))) (save_at e)
    by_end (AtPort c port) = tt
    by_end (AtSession s) = tt

-- ---- the request that was under way

pub answered-again : (N : Network) (is : List Incident) (k : RestartingNetwork) (s : ℕ) (hops : List Hop) (port ends : ℕ) (a : IsAsIfNever N is k)
    → s < N.sessions → is_waiting (k.session s).live.session ≡ true → 0 < (k.session s).live.session.attempts_left
    → IsWay N (run N (initial_state N) a.events) s hops port → LinksHaveAtMost N ends
    → length (held_frames k) + made_each_way ends hops ≤ frames_limit
    → IsAnsweredAgain N k s hops port
answered-again N is k s hops port ends a place waits attempts way all room =
    let n = a.stands.promised.network in
    let w : NetworkState = run N (initial_state N) a.events in
    let r : RunningNetwork = never_crashed N a.events in
    let one : RestartingNetwork = with_log k s (saved (k.session s)) in
    let two : RestartingNetwork = after_incidents N one (saves k.waiting) in
    let parts = all-split (Contains r.frames) k.frames k.waiting a.frames in
    let save = saves-all N (Contains r.frames) one k.waiting parts.0 parts.1 (all-appended [] k.waiting) in
    let live : (t : ℕ) → (two.session t).live ≡ (k.session t).live =
    λ t. ap (λ (f : ℕ → Stored SessionLog). (f t).live) save.sessions ∙ at_place (λ l (z : Stored SessionLog). z.live ≡ (k.session l).live) k.session s (saved (k.session s)) t refl refl in
    let same : record (running two) { frames = r.frames } ≡ r = (λ i. record {
      clock = λ c. save.clocks c i;
      session = λ t. (live t i).session;
      reports = λ t. (live t i).reports;
      frames = r.frames;
    }) ∙ a.same in
    let on = goes-on N a.events r two a.stands same save.sent in
    let u : NetworkState = record w { frames = on.frames } in
    let at : IsAt N two u = record { reached = on.reached; waiting = save.waiting; stands = on.stands (first_of_sessions N N.sessions) (firsts N n) } in
    let value : (k.session s).live.session ≡ session_value (N.session s) (w.session s) = ap (λ (l : SessionLog). l.session) (sym (live s)) ∙ at.stands.sessions s place in
    let busy : is_idle (w.session s) ≡ false = not_idle (N.session s) (w.session s) (subst (λ (v : SessionValue). is_waiting v ≡ true) value waits) in
    let may : 0 < (w.session s).attempts_left = subst (λ (v : SessionValue). 0 < v.attempts_left) value attempts in
    let way' : IsWay N u s hops port = way-stays N w u s (w.session s).domain port hops (λ d other. refl) way.for_one way.heard way in
    let size : length on.frames + made_each_way ends hops ≤ frames_limit =
    omega (arith, length-map on.frames held, ap length at.stands.frames, save.size, length-append k.frames (map (λ (x : ℕ × Held). x.1) k.waiting), length-map k.waiting (λ (x : ℕ × Held). x.1), room) in
    let answers : IsAnswerable N u s hops port = answerable-alone N u s hops port ends (answerable-at N u s hops port ends n on.reached place all busy may way' size) in
    let none : refused N two (Send s) ≡ None = refused-there N n two u at (Send s) ∙ answers.sent in
    let three : RestartingNetwork = incident N two (Happens (Send s)) in
    let closed : (two.session s).is_unsaved ≡ false = ap (λ (f : ℕ → Stored SessionLog). (f s).is_unsaved) save.sessions ∙ ap (λ (z : Stored SessionLog). z.is_unsaved) (here k.session s (saved (k.session s))) in
    let sends : Is two three (sends_in N (running two) s) =
    subst (λ (j : RestartingNetwork). Is two j (sends_in N (running two) s)) (sym (unless-none (refused N two (Send s)) two _ none)) (sends-once N two save.waiting s (two.session s).is_unsaved closed) in
    let at' = goes-there N n two u at (Send s) three (record { deed = Done; network = sends_in N (running two) s }) tt answers.sent refl (sends-ok N (running two) s (option_or-none _ _ none).0) sends in
    let ds : List (ℕ × End) = answers.deliveries in
    let handed' = handed N n three (step N u (Send s)) ds at' answers.come_in in
    let end : RestartingNetwork = after_incidents N three (handed_in_saved ds) in
    let reported = answers.reported in
    let idle : is_some (unanswered ((run N u (Send s ∷ handed_in ds)).session s)) ≡ false = ap is_some (cond-true _ _ _ reported.idle) in
    record {
      deliveries = ds;
      along = answers.along;
      end = end;
      led = after-append N one (saves k.waiting) (Happens (Send s) ∷ handed_in_saved ds);
      timely = (tt, timely-append N one (saves k.waiting) (Happens (Send s) ∷ handed_in_saved ds) save.timely ((λ fine. refl), handed'.timely));
      report = reported.report;
      index = reported.index ∙ sym (ap (λ (v : SessionValue). v.issued) value);
      reports = handed'.at.stands.reports s place ∙ reported.reports
          ∙ ap (λ (xs : List Report). xs ++ reported.report ∷ []) (sym (at.stands.reports s place) ∙ ap (λ (l : SessionLog). l.reports) (live s));
      idle = ap (λ (v : SessionValue). is_waiting v) (handed'.at.stands.sessions s place) ∙ idle;
    }
