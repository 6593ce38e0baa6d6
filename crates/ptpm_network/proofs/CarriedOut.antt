-- Nothing but the requests that a clock carries out changes it, whatever happens in its network.
use Rattle.ptpm_network.proofs.Common.{frame_at, Replay, replays, no_end, no_room, arith, ◌≡◌, ℕ, List, [], ◌∷◌, ◌++◌, Option, Some, None, refl, eqb-true, Result, Ok, Err, Deliver, Event, Stranger, Refusal, Held, RunningNetwork, after_turn, network_run, reaches, AtPort, AtSession, End, Network, Frame, strange_frame, seen}
use Rattle.std.specs.Prelude.{IfOk}
use Rattle.ptpm_agent.specs.CarriedOut.{after_requests}
use Rattle.ptpm_agent.specs.Turn.{NumberedRequest}
use Rattle.ptpm_agent.proofs.Entries.{after_requests-append, turn-carried}
use Rattle.ptpm_network.specs.CarriedOut.{carried_at, carried_by_event, carried_by_events, carried_while}
use Rattle.ptpm_network.specs.RunningNetwork.{Happened, goes_on, unless_refused}
unfoldable use Rattle.ptpm_network.specs.RunningNetwork.{network_event}

-- the clock that took the turn, or another
after_turn-carried : (N : Network) (r : RunningNetwork) (c d ingress : ℕ) (f : Frame)
    → (after_turn N r d ingress f).clock c
    ≡ after_requests (N.clock c) (r.clock c) (carried_at N r c (AtPort d ingress) f.octets)
after_turn-carried N r c d ingress f = grind (arith, eqb-true, turn-carried)

reaches-carried : (N : Network) (r : RunningNetwork) (c : ℕ) (h : Held) (e : End)
    → (reaches N r h e).network.clock c
    ≡ after_requests (N.clock c) (r.clock c) (carried_at N r c e h.octets)
reaches-carried N r c h (AtPort d port) = after_turn-carried N r c d port (seen h)
reaches-carried N r c h (AtSession s) = grind arith

-- clock c has these requests carried out, and nothing else of it is changed
abbrev pub HasCarried : Network → RunningNetwork → ℕ → List NumberedRequest → Happened → Type 0
HasCarried N r c rs h = h.network.clock c ≡ after_requests (N.clock c) (r.clock c) rs

-- what holds of all that may happen holds if a reason to refuse it is looked for first
pub if_not_refused : (o : Option Refusal) (x : Result Happened Refusal) (P : Happened → Type 0)
    → IfOk x P
    → IfOk (unless_refused o x) P
if_not_refused None x P p = p
if_not_refused (Some reason) x P p = tt

-- where a frame is replayed, no clock carries anything out yet
replays-carried : (N : Network) (r : RunningNetwork) (c : ℕ) (end : End) (o : Option Held)
    → IfOk (replays N r o end) (HasCarried N r c [])
replays-carried N r c end None = tt
replays-carried N r c end (Some h) =
    if_not_refused (no_end N end) _ (HasCarried N r c []) (if_not_refused (no_room r.frames) _ (HasCarried N r c []) refl)

-- one event
pub event-carried : (N : Network) (r : RunningNetwork) (c : ℕ) (e : Event)
    → IfOk (network_event N r e) (HasCarried N r c (carried_by_event N r c e))
unfolding carried_by_event network_event
event-carried N r c (Deliver n) = grind (arith, if_not_refused, reaches-carried)
event-carried N r c (Replay n end) = replays-carried N r c end (frame_at r.frames n)
event-carried N r c (Stranger d port datagram) = search (if_not_refused, after_turn-carried N r c d port (strange_frame d port datagram))
event-carried N r c _ = search if_not_refused

-- ---- any list of events

-- what an event that happened carried out, and then what the others did
pub then-carried : (N : Network) (r new : RunningNetwork) (c : ℕ) (e : Event) (es : List Event) (h : Happened)
    → HasCarried N r c (carried_by_event N r c e) h
    → new.clock c ≡ after_requests (N.clock c) (h.network.clock c) (carried_by_events N h.network c es)
    → new.clock c
    ≡ after_requests (N.clock c) (r.clock c) (carried_by_event N r c e ++ carried_by_events N h.network c es)
then-carried N r new c e es h now rest = grind (arith, after_requests-append)

goes_on-carried : (N : Network) (r : RunningNetwork) (c : ℕ) (e : Event) (es : List Event)
    (x : Result Happened Refusal)
    → IfOk x (HasCarried N r c (carried_by_event N r c e))
    → ((next : RunningNetwork) → (network_run N next es).clock c ≡ after_requests (N.clock c) (next.clock c) (carried_by_events N next c es))
    → (goes_on r x (λ next. network_run N next es)).clock c
    ≡ after_requests (N.clock c) (r.clock c) (carried_while x (carried_by_event N r c e) (λ next. carried_by_events N next c es))
goes_on-carried N r c e es (Ok h) now rest = then-carried N r (network_run N h.network es) c e es h now (rest h.network)
goes_on-carried N r c e es (Err reason) now rest = refl

pub run-carried : (N : Network) (r : RunningNetwork) (c : ℕ) (es : List Event)
    → (network_run N r es).clock c
    ≡ after_requests (N.clock c) (r.clock c) (carried_by_events N r c es)
run-carried N r c [] = refl
run-carried N r c (e ∷ es) =
    goes_on-carried N r c e es (network_event N r e) (event-carried N r c e) (λ next. run-carried N next c es)
