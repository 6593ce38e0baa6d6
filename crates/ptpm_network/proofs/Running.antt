-- A running network makes of every event what the machine does. It refuses what that refuses, for the same reason, and
-- otherwise it takes the same step.
use Rattle.ptpm_network.proofs.Common.{arith, by_test, ◌≡◌, ℕ, ◌<◌, ◌==◌, List, [], ◌∷◌, ◌++◌, Option, Some, None, false, refl, sym, ◌∙◌, ap, subst, eqb-true, ltb-false, append-nil, AllByRecursion, cons_option, PortIdentity, InWindow, Delivery, History, RequestCopy, after_copy, applied_once, initial_history, copy_of, greatest, Clock, AreNumbered, IsInTime, IsInWindow, IsNumbered, KeepsWindow, Event, Deliver, IsInRange, Stranger, refusal, IsReached, AreInTime, arrives, delivery, happens, is_late_delivery, is_late_frame, run, step, strange_frame, IsNetwork, Network, ports, AreFirsts, Frame, NetworkState, copies_at, initial_state, history, is_late, all_append, result_err, Result, Ok, Err, Happened, unless_refused, network_event, delivers, goes_on, ◌≤◌, nat_lt, not, is_none, if◌then◌else◌, option_map, option_or, first_of, length, length-map, received_of, SessionValue, send_refusal, is_waiting, begun, Begin, Replay, replays, no_end, to_end, map, map-append, with_frames, FramesAtMaximum, Refusal, Resume, Retune, Send, SendRefused, begin_refused, send_refused, forged, frame_at, frames_limit, no_frame, no_port, no_room, no_session, Held, RunningNetwork, held, network_run, reaches, IsFrame, begun_in, delivered, delivered_at, delivered_at_clock, report_from, step_by, taken, AtPort, AtSession, End, HasEnd, Stands, is_idle, session_value, le_trans}
use Rattle.ptpm_network.proofs.Accepting.{in_step-window}
use Rattle.ptpm_network.proofs.Arriving.{IsCopyOf, copies-elsewhere, copies-here, is_copy_of}
use Rattle.ptpm_network.proofs.Frames.{IsHeard, heard-frame}
use Rattle.ptpm_network.proofs.Reaching.{first-reached, frame_at-is, step-reached, after-step, after-delivery, strange-comes, port-exists, session-exists, strange-says, reached}
use Rattle.ptpm_network.proofs.Steps.{InStep}
use Rattle.ptpm_network.proofs.Receiving.{begun-value, hears-stands, sends-stand, session-stands, not_idle}
use Rattle.ptpm_network.proofs.Held.{frame_at-map, turned-seen}
use Rattle.ptpm_network.proofs.Refusals.{idle-not_waiting}
use Rattle.ptpm_network.proofs.Standing.{stands-turned}
use Rattle.ptpm_network.proofs.Taking.{run-append}
use Rattle.ptpm_manager.specs.Ask as ask

-- ---- a copy that is not late lies in the window of its manager

copy-window : (N : Network) (w : NetworkState) (c port : ℕ) (f : Frame) (copy : RequestCopy)
    → IsReached N w → is_late w f.origin ≡ false → IsCopyOf N w c port f copy
    → InWindow (greatest copy.heard.source (history N w c).accepted) copy.index
copy-window N w c port f copy r late of = grind (arith, InStep, in_step-window, ltb-false)

module _ (first : ℕ → PortIdentity → ℕ) (N : Network) (w : NetworkState) (c port : ℕ) (f : Frame) (copy : RequestCopy) (firsts : AreFirsts N first) where
  -- late or not, index and sequenceId go together
  copy-numbered : IsCopyOf N w c port f copy → IsNumbered (first c) copy
  copy-numbered of = record {
    positive = subst (λ k. 0 < k) (sym of.index) of.says.positive;
    number = grind arith;
  }

  pub in_window : IsNetwork N
      → IsReached N w → c < N.clocks → IsHeard N w f.octets f.origin → is_late w f.origin ≡ false
      → copy_of (N.clock c) (ports N c) (delivery port f) ≡ Some copy
      → IsInTime (first c) (history N w c) copy
  in_window n r place i late e = grind (arith, is_copy_of, copy-numbered, copy-window)

-- ---- all copies that came in at a clock

window-append : (c : Clock) (h : History) (ks : List RequestCopy) (k : RequestCopy)
    → KeepsWindow c h ks → IsInWindow (applied_once c h ks) k
    → KeepsWindow c h (ks ++ k ∷ [])
window-append c h [] k keeps new = (new, tt)
window-append c h (j ∷ js) k keeps new = (keeps.0, window-append c (after_copy c h j) js k keeps.1 new)

-- they are numbered, and lie in the window if nothing came late, which A says
record Keeping (N : Network) (first : ℕ → PortIdentity → ℕ) (A : Type 0) (c : ℕ) (ks : List RequestCopy) : Type 0 where
  pub numbered : AreFirsts N first → AreNumbered (first c) ks
  pub window : A → KeepsWindow (N.clock c) (initial_history (N.start c)) ks

abbrev Keeps : Network → (ℕ → PortIdentity → ℕ) → Type 0 → NetworkState → Type 0
Keeps N first A w = (c : ℕ) → c < N.clocks → Keeping N first A c (copies_at N w c)

module _ (N : Network) (first : ℕ → PortIdentity → ℕ) (A : Type 0) (w : NetworkState) (n : IsNetwork N) (r : IsReached N w) where
  keeping-by : (c port : ℕ) (f : Frame) (o : Option RequestCopy)
      → c < N.clocks → IsHeard N w f.octets f.origin → (A → is_late w f.origin ≡ false)
      → copy_of (N.clock c) (ports N c) (delivery port f) ≡ o
      → Keeping N first A c (copies_at N w c)
      → Keeping N first A c (copies_at N w c ++ cons_option o [])
  keeping-by c port f None place i late e keeps = subst (Keeping N first A c) (sym (append-nil (copies_at N w c))) keeps
  keeping-by c port f (Some copy) place i late e keeps =
      let of = is_copy_of N w c port f copy n r place i e in grind (arith, all_append, copy-numbered, window-append, copy-window)

  keeps-arriving : (d port : ℕ) (f : Frame)
      → IsHeard N w f.octets f.origin → (A → is_late w f.origin ≡ false) → Keeps N first A w
      → Keeps N first A (arrives w d (delivery port f))
  keeps-arriving d port f i late keeps c place =
      let x : Delivery = delivery port f in
      by_test (c == d)
      (λ y. let there : d < N.clocks = rw (eqb-true c d y) at place in
      rw (eqb-true c d y, copies-here N w d x) (keeping-by d port f (copy_of (N.clock d) (ports N d) x) there i late refl (keeps d there)))
      (λ o. rw (copies-elsewhere N w d x c o) (keeps c place))

  keeps-happens : (e : Event)
      → IsInRange e → refusal N w e ≡ None → (A → is_late_delivery w e ≡ false) → Keeps N first A w
      → Keeps N first A (happens N w e)
  unfolding refusal happens
  keeps-happens (Deliver k) i e late keeps =
      after-delivery (Keeps N first A) N w k keeps
      (λ f at c port end. keeps-arriving c port f (heard-frame N w f.octets f.origin (frame_at-is N w k f r at).origin) (λ a. sym (ap (is_late_frame w) at) ∙ late a) keeps)
      (λ f at s end. keeps)
  keeps-happens (Stranger d port datagram) i e late keeps =
      keeps-arriving d port (strange_frame d port datagram) (strange-comes N w d port datagram i e).1 (λ a. refl) keeps
  keeps-happens _ i e late keeps = keeps

keeps-run : (N : Network) (first : ℕ → PortIdentity → ℕ) (A : Type 0) (w : NetworkState)
    (es : List Event)
    → IsNetwork N → IsReached N w → AllByRecursion IsInRange es → (A → AreInTime N w es)
    → Keeps N first A w
    → Keeps N first A (run N w es)
keeps-run N first A w [] n r i late keeps = keeps
keeps-run N first A w (e ∷ es) n r i late keeps =
    keeps-run N first A (step N w e) es n (step-reached N w e n i.0 r) i.1 (λ a. (late a).1)
    (after-step (Keeps N first A) N w e keeps (λ none. grind (arith, keeps-happens)))

keeps-first : (N : Network) (first : ℕ → PortIdentity → ℕ) (A : Type 0)
    → Keeps N first A (initial_state N)
keeps-first N first A c place = record { numbered = λ firsts. tt; window = λ a. tt }

pub copies-numbered : (N : Network) (es : List Event) (first : ℕ → PortIdentity → ℕ) (c : ℕ)
    → IsNetwork N → AllByRecursion IsInRange es → AreFirsts N first → c < N.clocks
    → AreNumbered (first c) (copies_at N (run N (initial_state N) es) c)
copies-numbered N es first c n i firsts place = (keeps-run N first ⊥ (initial_state N) es n (first-reached N n) i (λ a. absurd a) (keeps-first N first ⊥) c place).numbered firsts

pub copies-in_window : (N : Network) (es : List Event) (c : ℕ)
    → IsNetwork N → AllByRecursion IsInRange es → AreInTime N (initial_state N) es → c < N.clocks
    → KeepsWindow (N.clock c) (initial_history (N.start c))
    (copies_at N (run N (initial_state N) es) c)
copies-in_window N es c n i late place =
    (keeps-run N (λ c m. 0) (AreInTime N (initial_state N) es) (initial_state N) es n (first-reached N n) i (λ a. a)
    (keeps-first N (λ c m. 0) (AreInTime N (initial_state N) es)) c place).window late

-- ---- reasons to refuse, one after another

-- what a running network makes of an event is refused for this reason, and of the network after it P holds
pub record Follows (x : Result Happened Refusal) (o : Option Refusal)
    (P : RunningNetwork → Type 0) : Type 0 where
  pub reason : result_err x ≡ o
  pub next : (h : Happened) → x ≡ Ok h → P h.network

by_last : (P : RunningNetwork → Type 0) (a b : Option Refusal) (h : Happened)
    → a ≡ b → (b ≡ None → P h.network)
    → Follows (unless_refused a (Ok h)) b P
by_last P None None h e holds = record { reason = refl; next = grind arith }
by_last P (Some a) (Some b) h e holds = record { reason = e; next = λ g is. absurd (cc) }
by_last P _ _ h e holds = absurd (cc)

by_reason : {P : RunningNetwork → Type 0} (a b o : Option Refusal) (x : Result Happened Refusal)
    → a ≡ b → (b ≡ None → Follows x o P)
    → Follows (unless_refused a x) (option_or b o) P
by_reason None None o x e behind = behind refl
by_reason (Some a) (Some b) o x e behind = record { reason = e; next = λ g is. absurd (cc) }
by_reason _ _ o x e behind = absurd (cc)

-- ---- a frame comes in

reaches-stands : (N : Network) (first : ℕ → PortIdentity → ℕ) (r : RunningNetwork) (w : NetworkState)
    (f : Frame) (e : End)
    → AreFirsts N first → IsNetwork N → IsReached N w → Stands N first r w → IsFrame N w f
    → HasEnd N e → is_late w f.origin ≡ false
    → Stands N first (reaches N r (held f) e).network (delivered_at N w f e)
reaches-stands N first r w f (AtPort c port) firsts n reached at i end late =
    subst (λ (x : RunningNetwork). Stands N first x (delivered_at_clock N w c port f)) (sym (turned-seen N r c port f))
    (stands-turned N first r w c port f at end.0 (λ copy is. in_window first N w c port f copy firsts n reached end.0 (heard-frame N w f.octets f.origin i.origin) late is))
reaches-stands N first r w f (AtSession s) firsts n reached at i end late =
    hears-stands N first r w s f (received_of (r.session s) f.octets) (report_from s (w.session s) f) n reached at end i.origin late
    (ap (λ (v : SessionValue). received_of v f.octets) (sym (at.sessions s end))) refl

-- ---- any event

module _ (N : Network) (first : ℕ → PortIdentity → ℕ) (r : RunningNetwork) (w : NetworkState) (n : IsNetwork N) (known : IsReached N w) (at : Stands N first r w) where
  room : no_room r.frames ≡ no_room w.frames
  room = ap (λ k. first_of ((nat_lt frames_limit k, FramesAtMaximum) ∷ [])) (ap length at.frames ∙ length-map w.frames held)

  -- all its reports are of requests that it began
  told : (s : ℕ) → s < N.sessions → length (w.session s).reports ≤ length (w.session s).begun
  told s place = le_trans (known.sessions s place).accepted_before (known.sessions s place).begun_before

  idle : (s : ℕ) → s < N.sessions → not (is_waiting (r.session s)) ≡ is_idle (w.session s)
  idle s place =
      ap (λ (v : SessionValue). not (is_waiting v)) (at.sessions s place)
      ∙ by_test (is_waiting (session_value (N.session s) (w.session s)))
      (λ y. ap not y ∙ sym (not_idle (N.session s) (w.session s) y))
      (λ o. ap not o ∙ sym (idle-not_waiting (N.session s) (w.session s) (told s place) o))

  by_session : {P : RunningNetwork → Type 0} (s : ℕ) (a b : Option Refusal) (h : Happened)
      → (s < N.sessions → a ≡ b) → (s < N.sessions → P h.network)
      → Follows (unless_refused (no_session N s) (unless_refused a (Ok h))) (option_or (no_session N s) b) P
  by_session s a b h same holds = grind (arith, by_reason, session-exists, by_last)

  delivers-follows : (k : ℕ) (o : Option Frame)
      → frame_at w.frames k ≡ o
      → Follows (delivers N r (option_map held o)) (option_or (no_frame o) (no_room w.frames))
      (λ x. AreFirsts N first → Unit {0} → is_late_frame w o ≡ false → Stands N first x (delivered N w o))
  delivers-follows k None e = record { reason = refl; next = λ g is. absurd (cc) }
  delivers-follows k (Some f) e =
      let i = frame_at-is N w k f known e in
      by_last _ (no_room r.frames) (no_room w.frames) (reaches N r (held f) f.end) room (λ fine firsts range late. reaches-stands N first r w f f.end firsts n known at i i.end late)

  replayed-stands : (fs : List Frame)
      → Stands N first (record r { frames = r.frames ++ map held fs }) (with_frames w fs)
  replayed-stands fs = record {
    clocks = at.clocks;
    sessions = at.sessions;
    reports = at.reports;
    frames = grind (arith, at.frames, map-append);
  }

  replays-follows : (k : ℕ) (end : End) (o : Option Frame)
      → frame_at w.frames k ≡ o
      → Follows (replays N r (option_map held o) end) (option_or (no_frame o) (option_or (no_end N end) (no_room w.frames)))
      (λ x. AreFirsts N first → Unit {0} → false ≡ false → Stands N first x (with_frames w (to_end end o)))
  replays-follows k end None e = record { reason = refl; next = λ g is. absurd (cc) }
  replays-follows k end (Some f) e =
      by_reason (no_end N end) (no_end N end) (no_room w.frames) _ refl
      (λ there. by_last _ (no_room r.frames) (no_room w.frames) _ room
      (λ fine firsts range late. replayed-stands (record f { end = end } ∷ [])))

  pub follows : (e : Event)
      → Follows (network_event N r e) (refusal N w e)
      (λ x. AreFirsts N first → IsInRange e → is_late_delivery w e ≡ false → Stands N first x (happens N w e))
  unfolding network_event refusal happens
  follows (Begin s a) =
      by_session s _ (begin_refused N w s a) _ (λ place. grind arith)
      (λ place firsts range late. session-stands N first r w s (begun (r.session s) (ask.request_of a)) (begun_in (N.session s) (w.session s) (ask.request_of a)) at place
      (ap (λ (v : SessionValue). begun v (ask.request_of a)) (at.sessions s place) ∙ begun-value (N.session s) (w.session s) (ask.request_of a) (told s place)) refl)
  follows (Send s) =
      by_reason (no_session N s) (no_session N s) _ _ refl
      (λ none. let place = session-exists N s none in
      by_reason (no_room r.frames) (no_room w.frames) (send_refused N w s) _ room
      (λ fine. by_last _ _ (send_refused N w s) _ (ap (λ (v : SessionValue). option_map SendRefused (send_refusal v)) (at.sessions s place))
      (λ last firsts range late. sends-stand N first r w s at place)))
  follows (Resume s attempts) = grind (arith, by_session, idle, session-stands)
  follows (Retune s domain) = grind (arith, by_last, session-exists, session-stands)
  follows (Deliver k) =
      let same : frame_at r.frames k ≡ option_map held (frame_at w.frames k) = grind (arith, frame_at-map) in
      subst (λ (o : Option Held). Follows (delivers N r o) (option_or (no_frame (frame_at w.frames k)) (no_room w.frames))
      (λ x. AreFirsts N first → Unit {0} → is_late_frame w (frame_at w.frames k) ≡ false → Stands N first x (delivered N w (frame_at w.frames k)))) (sym same)
      (delivers-follows k (frame_at w.frames k) refl)
  follows (Replay k end) =
      let same : frame_at r.frames k ≡ option_map held (frame_at w.frames k) = grind (arith, frame_at-map) in
      subst (λ (o : Option Held). Follows (replays N r o end) (option_or (no_frame (frame_at w.frames k)) (option_or (no_end N end) (no_room w.frames)))
      (λ x. AreFirsts N first → Unit {0} → false ≡ false → Stands N first x (with_frames w (to_end end (frame_at w.frames k))))) (sym same)
      (replays-follows k end (frame_at w.frames k) refl)
  follows (Stranger c port datagram) =
      by_reason (no_port N c port) (no_port N c port) _ _ refl
      (λ there. by_reason (forged N datagram) (forged N datagram) (no_room w.frames) _ refl
      (λ fine. by_last _ (no_room r.frames) (no_room w.frames) _ room
      (λ last firsts octets late.
      let place = (port-exists N c port there).0 in
      stands-turned N first r w c port (strange_frame c port datagram) at place
      (λ copy is. in_window first N w c port (strange_frame c port datagram) copy firsts n known place (strange-says N w datagram octets fine) refl is))))

-- ---- a list of events

goes_on-stands : (N : Network) (first : ℕ → PortIdentity → ℕ) (r : RunningNetwork) (w : NetworkState)
    (e : Event) (es : List Event) (x : Result Happened Refusal) (o : Option Refusal)
    → Stands N first r w
    → Follows x o (λ y. is_late_delivery w e ≡ false → Stands N first y (happens N w e))
    → refusal N w e ≡ o
    → AreInTime N w (if is_none o then e ∷ taken N (step N w e) es else [])
    → ((next : RunningNetwork)
    → Stands N first next (step N w e)
    → AreInTime N (step N w e) (taken N (step N w e) es)
    → Stands N first (network_run N next es) (run N (step N w e) (taken N (step N w e) es)))
    → Stands N first (goes_on r x (λ next. network_run N next es))
    (run N w (if is_none o then e ∷ taken N (step N w e) es else []))
goes_on-stands N first r w e es (Ok h) None at f none time behind =
    behind h.network (subst (Stands N first h.network) (sym (ap (λ (o : Option Refusal). step_by o N w e) none)) (f.next h refl (time.0 none))) time.1
goes_on-stands N first r w e es (Err why) (Some reason) at f some time behind = at
goes_on-stands N first r w e es (Ok h) (Some reason) at f some time behind = let never : None ≡ Some reason = f.reason in absurd (cc)
goes_on-stands N first r w e es (Err why) None at f none time behind = let never : Some why ≡ None = f.reason in absurd (cc)

pub network_run-stands : (N : Network) (first : ℕ → PortIdentity → ℕ) (r : RunningNetwork)
    (w : NetworkState) (es : List Event)
    → AreFirsts N first → IsNetwork N → IsReached N w → Stands N first r w
    → AllByRecursion IsInRange es → AreInTime N w (taken N w es)
    → Stands N first (network_run N r es) (run N w (taken N w es))
network_run-stands N first r w [] firsts n reached at i time = at
network_run-stands N first r w (e ∷ es) firsts n reached at i time =
    let f = follows N first r w n reached at e in
    goes_on-stands N first r w e es (network_event N r e) (refusal N w e) at (record { reason = f.reason; next = λ h is late. f.next h is firsts i.0 late }) refl time
    (λ next there timely. network_run-stands N first next (step N w e) es firsts n (step-reached N w e n i.0 reached) there i.1 timely)

-- ---- from where a list of events leads

pub network_run-running : (N : Network) (past es : List Event) (first : ℕ → PortIdentity → ℕ)
    (r : RunningNetwork)
    → IsNetwork N → AllByRecursion IsInRange past → AreFirsts N first
    → Stands N first r (run N (initial_state N) past) → AllByRecursion IsInRange es
    → AreInTime N (run N (initial_state N) past) (taken N (run N (initial_state N) past) es)
    → Stands N first (network_run N r es)
    (run N (initial_state N) (past ++ taken N (run N (initial_state N) past) es))
network_run-running N past es first r n i firsts at range time =
    let w : NetworkState = run N (initial_state N) past in
    subst (Stands N first (network_run N r es)) (sym (run-append N (initial_state N) past (taken N w es)))
    (network_run-stands N first r w es firsts n (reached N past n i) at range time)
