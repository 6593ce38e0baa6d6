-- At-most-once execution over all that happens at a clock. Deliveries by themselves are the case without observations.
use Rattle.std.proofs.Common.{arith, ◌≡◌, ℕ, List, [], ◌∷◌, ◌++◌, Option, Some, None, false, length, refl, ◌∙◌, ap}
use Rattle.std.specs.List.{cons_option}
use Rattle.ptpm_codec.specs.declared.identity.PortIdentity.{PortIdentity}
use Rattle.ptpm_data.specs.Members.{DataSetsValue}
use Rattle.ptpm_data.proofs.Observed.{observed-ports}
use Rattle.ptpm_agent.specs.Turn.{Clock, State, outbox_of, turn}
use Rattle.ptpm_agent.specs.Once.{Delivery, History, RequestCopy, after_copy, applied_once, copies, copy_of, due_reply, initial_history, joins}
use Rattle.ptpm_agent.specs.Window.{AreNumbered, IsInTime, IsInWindow, IsNumbered, KeepsWindow}
use Rattle.ptpm_agent.specs.Laws.{StandsAt, due_messages, initial_clock_state, turns}
use Rattle.ptpm_agent.specs.Observing.{ComeInTime, ComesInTime, Delivered, Happening, Observed, after_arrival, after_happening, after_happenings, applied_in_place, deliveries_alone, history_after}
use Rattle.ptpm_agent.proofs.AtMostOnce.{TurnsAs, after_copy-ports, applied_once-ports, stands-initial_history, turn-no_copy, turns_as}

-- ---- one happening

-- a delivery, with a copy in time or with none
pub stands-arrival : (first : PortIdentity → ℕ) (c : Clock) (ports : ℕ) (s : State) (h : History)
    (x : Delivery) (o : Option RequestCopy)
    → length h.sets.ports ≡ ports → copy_of c ports x ≡ o → StandsAt first s h
    → ((k : RequestCopy) → copy_of c ports x ≡ Some k → IsInTime first h k)
    → StandsAt first (turn c s x.ingress x.datagram).next (after_arrival c h o)
stands-arrival first c ports s h x None many e at time = grind (arith, turn-no_copy)
stands-arrival first c ports s h x (Some k) many e at time = (turns_as first c s h x k at (ap (λ p. copy_of c p x) many ∙ e) (time k e)).stands

stands-happening : (first : PortIdentity → ℕ) (c : Clock) (ports : ℕ) (s : State) (h : History)
    (x : Happening)
    → length h.sets.ports ≡ ports → StandsAt first s h → ComesInTime first c ports h x
    → StandsAt first (after_happening c s x) (history_after c ports h x)
stands-happening first c ports s h (Delivered x) many at time = stands-arrival first c ports s h x (copy_of c ports x) many refl at time
stands-happening first c ports s h (Observed o seen) many at time = grind arith

history_after-ports : (c : Clock) (ports : ℕ) (h : History) (x : Happening)
    → length (history_after c ports h x).sets.ports ≡ length h.sets.ports
history_after-ports c ports h (Delivered x) = grind (arith, after_copy-ports)
history_after-ports c ports h (Observed o seen) = observed-ports o seen h.sets

-- ---- all that happens

applied_in_place-ports : (c : Clock) (ports : ℕ) (h : History) (xs : List Happening)
    → length (applied_in_place c ports h xs).sets.ports ≡ length h.sets.ports
applied_in_place-ports c ports h [] = refl
applied_in_place-ports c ports h (x ∷ xs) = applied_in_place-ports c ports (history_after c ports h x) xs ∙ history_after-ports c ports h x

pub stands_happenings : (first : PortIdentity → ℕ) (c : Clock) (ports : ℕ) (s : State) (h : History)
    (xs : List Happening)
    → length h.sets.ports ≡ ports → StandsAt first s h → ComeInTime first c ports h xs
    → StandsAt first (after_happenings c s xs) (applied_in_place c ports h xs)
stands_happenings first c ports s h [] many at time = at
stands_happenings first c ports s h (x ∷ xs) many at time =
    stands_happenings first c ports (after_happening c s x) (history_after c ports h x) xs
    (history_after-ports c ports h x ∙ many) (stands-happening first c ports s h x many at time.0) time.1

-- the turn on a copy that comes in after all of these
turns_as_behind : (first : PortIdentity → ℕ) (c : Clock) (ports : ℕ) (s : State) (h : History)
    (xs : List Happening) (x : Delivery) (k : RequestCopy)
    → length h.sets.ports ≡ ports → StandsAt first s h → copy_of c ports x ≡ Some k
    → ComeInTime first c ports h xs → IsInTime first (applied_in_place c ports h xs) k
    → TurnsAs first c (after_happenings c s xs) (applied_in_place c ports h xs) x k
turns_as_behind first c ports s h xs x k many at e before time =
    turns_as first c (after_happenings c s xs) (applied_in_place c ports h xs) x k
    (stands_happenings first c ports s h xs many at before)
    (ap (λ p. copy_of c p x) (applied_in_place-ports c ports h xs ∙ many) ∙ e) time

outbox_behind : (first : PortIdentity → ℕ) (c : Clock) (s : State) (h : History) (x : Delivery)
    (k : RequestCopy)
    → TurnsAs first c s h x k
    → outbox_of (turn c s x.ingress x.datagram) ≡ due_messages c k (due_reply c h k)
outbox_behind first c s h x k as' =
    ap (λ (f : List (ℕ × List ℕ)). f ++ (turn c s x.ingress x.datagram).replies) as'.forwards ∙ as'.replies

-- a list with one more happening
time_parts : (first : PortIdentity → ℕ) (c : Clock) (ports : ℕ) (h : History) (xs : List Happening)
    (x : Happening)
    → ComeInTime first c ports h (xs ++ x ∷ [])
    → ComeInTime first c ports h xs × ComesInTime first c ports (applied_in_place c ports h xs) x
time_parts first c ports h [] x time = (tt, time.0)
time_parts first c ports h (y ∷ ys) x time = let rest = time_parts first c ports (history_after c ports h y) ys x time.1 in ((time.0, rest.0), rest.1)

after_happenings-append : (c : Clock) (s : State) (xs : List Happening) (x : Happening)
    → after_happenings c s (xs ++ x ∷ []) ≡ after_happening c (after_happenings c s xs) x
after_happenings-append c s [] x = refl
after_happenings-append c s (y ∷ ys) x = after_happenings-append c (after_happening c s y) ys x

turns_as_last : (first : PortIdentity → ℕ) (c : Clock) (d : DataSetsValue) (xs : List Happening)
    (x : Delivery) (k : RequestCopy)
    → copy_of c (length d.ports) x ≡ Some k
    → ComeInTime first c (length d.ports) (initial_history d) (xs ++ Delivered x ∷ [])
    → TurnsAs first c (after_happenings c (initial_clock_state d) xs)
    (applied_in_place c (length d.ports) (initial_history d) xs) x k
turns_as_last first c d xs x k e time =
    let t = time_parts first c (length d.ports) (initial_history d) xs (Delivered x) time in
    turns_as_behind first c (length d.ports) (initial_clock_state d) (initial_history d) xs x k refl
    (stands-initial_history first d) e t.0 (t.1 k e)

pub sets_in_place : (c : Clock) (first : PortIdentity → ℕ) (d : DataSetsValue)
    (xs : List Happening)
    → ComeInTime first c (length d.ports) (initial_history d) xs
    → (after_happenings c (initial_clock_state d) xs).sets
    ≡ (applied_in_place c (length d.ports) (initial_history d) xs).sets
sets_in_place c first d xs time =
    (stands_happenings first c (length d.ports) (initial_clock_state d) (initial_history d) xs refl (stands-initial_history first d) time).sets

pub outbox_in_place : (c : Clock) (first : PortIdentity → ℕ) (d : DataSetsValue)
    (xs : List Happening) (x : Delivery) (k : RequestCopy)
    → copy_of c (length d.ports) x ≡ Some k
    → ComeInTime first c (length d.ports) (initial_history d) (xs ++ Delivered x ∷ [])
    → outbox_of (turn c (after_happenings c (initial_clock_state d) xs) x.ingress x.datagram)
    ≡ due_messages c k
    (due_reply c (applied_in_place c (length d.ports) (initial_history d) xs) k)
outbox_in_place c first d xs x k e time =
    outbox_behind first c (after_happenings c (initial_clock_state d) xs)
    (applied_in_place c (length d.ports) (initial_history d) xs) x k (turns_as_last first c d xs x k e time)

pub repeat_in_place : (c : Clock) (first : PortIdentity → ℕ) (d : DataSetsValue)
    (xs : List Happening) (x : Delivery) (k : RequestCopy)
    → copy_of c (length d.ports) x ≡ Some k
    → ComeInTime first c (length d.ports) (initial_history d) (xs ++ Delivered x ∷ [])
    → joins (applied_in_place c (length d.ports) (initial_history d) xs) k ≡ false
    → after_happenings c (initial_clock_state d) (xs ++ Delivered x ∷ [])
    ≡ after_happenings c (initial_clock_state d) xs
repeat_in_place c first d xs x k e time j =
    after_happenings-append c (initial_clock_state d) xs (Delivered x) ∙ (turns_as_last first c d xs x k e time).stays j

-- ---- deliveries alone

pub turns-alone : (c : Clock) (s : State) (xs : List Delivery)
    → after_happenings c s (deliveries_alone xs) ≡ turns c s xs
turns-alone c s [] = refl
turns-alone c s (x ∷ xs) = turns-alone c (turn c s x.ingress x.datagram).next xs

applied_once-arrival : (c : Clock) (h : History) (o : Option RequestCopy) (ks : List RequestCopy)
    → applied_once c (after_arrival c h o) ks ≡ applied_once c h (cons_option o ks)
applied_once-arrival c h None ks = refl
applied_once-arrival c h (Some k) ks = refl

pub applied_once-alone : (c : Clock) (ports : ℕ) (h : History) (xs : List Delivery)
    → applied_in_place c ports h (deliveries_alone xs) ≡ applied_once c h (copies c ports xs)
applied_once-alone c ports h [] = refl
applied_once-alone c ports h (x ∷ xs) =
    applied_once-alone c ports (after_arrival c h (copy_of c ports x)) xs
    ∙ applied_once-arrival c h (copy_of c ports x) (copies c ports xs)

-- the copies ks come in after a delivery, with a copy or with none
record ArrivesInTime (first : PortIdentity → ℕ) (c : Clock) (h : History) (o : Option RequestCopy) (ks : List RequestCopy) : Type 0 where
  pub time : (k : RequestCopy) → o ≡ Some k → IsInTime first h k
  pub numbered : AreNumbered first ks
  pub window : KeepsWindow c (after_arrival c h o) ks

arrives_in_time : (first : PortIdentity → ℕ) (c : Clock) (h : History) (o : Option RequestCopy)
    (ks : List RequestCopy)
    → AreNumbered first (cons_option o ks) → KeepsWindow c h (cons_option o ks)
    → ArrivesInTime first c h o ks
arrives_in_time first c h None ks numbered window = grind arith
arrives_in_time first c h (Some j) ks numbered window = grind arith

pub time-alone : (first : PortIdentity → ℕ) (c : Clock) (ports : ℕ) (h : History) (xs : List Delivery)
    → AreNumbered first (copies c ports xs) → KeepsWindow c h (copies c ports xs)
    → ComeInTime first c ports h (deliveries_alone xs)
time-alone first c ports h [] numbered window = tt
time-alone first c ports h (x ∷ xs) numbered window =
    let t = arrives_in_time first c h (copy_of c ports x) (copies c ports xs) numbered window in
    (t.time, time-alone first c ports (after_arrival c h (copy_of c ports x)) xs t.numbered t.window)

pub stands_turns : (first : PortIdentity → ℕ) (c : Clock) (ports : ℕ) (s : State) (h : History)
    (xs : List Delivery)
    → length h.sets.ports ≡ ports
    → StandsAt first s h
    → AreNumbered first (copies c ports xs)
    → KeepsWindow c h (copies c ports xs)
    → StandsAt first (turns c s xs) (applied_once c h (copies c ports xs))
stands_turns first c ports s h xs many at numbered window = grind (arith, turns-alone, applied_once-alone, stands_happenings, time-alone)

pub sets_once : (c : Clock) (first : PortIdentity → ℕ) (d : DataSetsValue) (xs : List Delivery)
    → AreNumbered first (copies c (length d.ports) xs)
    → KeepsWindow c (initial_history d) (copies c (length d.ports) xs)
    → (turns c (initial_clock_state d) xs).sets
    ≡ (applied_once c (initial_history d) (copies c (length d.ports) xs)).sets
sets_once c first d xs numbered window =
    (stands_turns first c (length d.ports) (initial_clock_state d) (initial_history d) xs refl (stands-initial_history first d) numbered window).sets

-- a list with one more copy
numbered_parts : (first : PortIdentity → ℕ) (ks : List RequestCopy) (k : RequestCopy)
    → AreNumbered first (ks ++ k ∷ [])
    → AreNumbered first ks × IsNumbered first k
numbered_parts first [] k numbered = (tt, numbered.0)
numbered_parts first (j ∷ js) k numbered = let rest = numbered_parts first js k numbered.1 in ((numbered.0, rest.0), rest.1)

window_parts : (c : Clock) (h : History) (ks : List RequestCopy) (k : RequestCopy)
    → KeepsWindow c h (ks ++ k ∷ [])
    → KeepsWindow c h ks × IsInWindow (applied_once c h ks) k
window_parts c h [] k window = (tt, window.0)
window_parts c h (j ∷ js) k window = let rest = window_parts c (after_copy c h j) js k window.1 in ((window.0, rest.0), rest.1)

turns_as_next : (c : Clock) (first : PortIdentity → ℕ) (ports : ℕ) (s : State) (h : History)
    (xs : List Delivery)
    (x : Delivery) (k : RequestCopy) → length h.sets.ports ≡ ports → StandsAt first s h → copy_of c ports x ≡ Some k
    → AreNumbered first (copies c ports xs ++ k ∷ [])
    → KeepsWindow c h (copies c ports xs ++ k ∷ [])
    → TurnsAs first c (turns c s xs) (applied_once c h (copies c ports xs)) x k
turns_as_next c first ports s h xs x k many at e numbered window =
    let n = numbered_parts first (copies c ports xs) k numbered in
    let w = window_parts c h (copies c ports xs) k window in
    turns_as first c (turns c s xs) (applied_once c h (copies c ports xs)) x k
    (stands_turns first c ports s h xs many at n.0 w.0)
    (ap (λ p. copy_of c p x) (applied_once-ports c h (copies c ports xs) ∙ many) ∙ e)
    (record { numbered = n.1; window = w.1 })

pub outbox_due-at : (c : Clock) (first : PortIdentity → ℕ) (ports : ℕ) (s : State) (h : History)
    (xs : List Delivery)
    (x : Delivery) (k : RequestCopy) → length h.sets.ports ≡ ports → StandsAt first s h → copy_of c ports x ≡ Some k
    → AreNumbered first (copies c ports xs ++ k ∷ [])
    → KeepsWindow c h (copies c ports xs ++ k ∷ [])
    → outbox_of (turn c (turns c s xs) x.ingress x.datagram)
    ≡ due_messages c k (due_reply c (applied_once c h (copies c ports xs)) k)
outbox_due-at c first ports s h xs x k many at e numbered window =
    outbox_behind first c (turns c s xs) (applied_once c h (copies c ports xs)) x k (turns_as_next c first ports s h xs x k many at e numbered window)

pub outbox_due : (c : Clock) (first : PortIdentity → ℕ) (d : DataSetsValue) (xs : List Delivery)
    (x : Delivery) (k : RequestCopy)
    → copy_of c (length d.ports) x ≡ Some k
    → AreNumbered first (copies c (length d.ports) xs ++ k ∷ [])
    → KeepsWindow c (initial_history d) (copies c (length d.ports) xs ++ k ∷ [])
    → outbox_of (turn c (turns c (initial_clock_state d) xs) x.ingress x.datagram)
    ≡ due_messages c k
    (due_reply c (applied_once c (initial_history d) (copies c (length d.ports) xs)) k)
outbox_due c first d xs x k e numbered window =
    outbox_due-at c first (length d.ports) (initial_clock_state d) (initial_history d) xs x k refl (stands-initial_history first d) e numbered window

turns-append : (c : Clock) (s : State) (xs : List Delivery) (x : Delivery)
    → turns c s (xs ++ x ∷ []) ≡ (turn c (turns c s xs) x.ingress x.datagram).next
turns-append c s [] x = refl
turns-append c s (y ∷ ys) x = turns-append c (turn c s y.ingress y.datagram).next ys x

pub turns-repeat : (c : Clock) (first : PortIdentity → ℕ) (d : DataSetsValue) (xs : List Delivery)
    (x : Delivery) (k : RequestCopy)
    → copy_of c (length d.ports) x ≡ Some k
    → AreNumbered first (copies c (length d.ports) xs ++ k ∷ [])
    → KeepsWindow c (initial_history d) (copies c (length d.ports) xs ++ k ∷ [])
    → joins (applied_once c (initial_history d) (copies c (length d.ports) xs)) k ≡ false
    → turns c (initial_clock_state d) (xs ++ x ∷ []) ≡ turns c (initial_clock_state d) xs
turns-repeat c first d xs x k e numbered window j =
    turns-append c (initial_clock_state d) xs x
    ∙ (turns_as_next c first (length d.ports) (initial_clock_state d) (initial_history d) xs x k refl (stands-initial_history first d) e numbered window).stays j
