-- The requests that the clocks of a running network carry out at events, in time or late.
use Rattle.std.specs.Prelude.{ℕ, List, [], ◌∷◌, ◌++◌, ◌==◌, Option, Some, None, Result, Ok, Err, if◌then◌else◌}
use Rattle.ptpm_agent.specs.CarriedOut.{carried_in}
use Rattle.ptpm_agent.specs.Turn.{NumberedRequest}
use Rattle.ptpm_network.specs.Events.{Event, Begin, Send, Resume, Retune, Deliver, Replay, Stranger, Refusal, frame_at}
use Rattle.ptpm_network.specs.Network.{End, AtPort, AtSession, Network}
use Rattle.ptpm_network.specs.RunningNetwork.{Happened, Held, RunningNetwork, network_event}

-- what clock c carries out of a datagram that comes in at an end: the request of its turn, if the verdict is AnsweredNew
abbrev pub carried_at : Network → RunningNetwork → ℕ → End → List ℕ → List NumberedRequest
carried_at N r c (AtPort d port) datagram =
    if c == d then carried_in (N.clock c) (r.clock c) datagram else []
carried_at N r c (AtSession s) datagram = []

abbrev pub carried_of_frame : Network → RunningNetwork → ℕ → Option Held → List NumberedRequest
carried_of_frame N r c None = []
carried_of_frame N r c (Some h) = carried_at N r c h.end h.octets

-- what clock c carries out at an event
unfoldable pub carried_by_event : Network → RunningNetwork → ℕ → Event → List NumberedRequest
carried_by_event N r c (Begin s ask) = []
carried_by_event N r c (Send s) = []
carried_by_event N r c (Resume s attempts) = []
carried_by_event N r c (Retune s domain) = []
carried_by_event N r c (Deliver n) = carried_of_frame N r c (frame_at r.frames n)
carried_by_event N r c (Replay n end) = []
carried_by_event N r c (Stranger d port datagram) = carried_at N r c (AtPort d port) datagram

-- if an event happens, this and what others carry out from where it leads
abbrev pub carried_while : Result Happened Refusal
    → List NumberedRequest
    → (RunningNetwork → List NumberedRequest)
    → List NumberedRequest
carried_while (Ok happened) now others = now ++ others happened.network
carried_while (Err reason) now others = []

-- at a list of events, up to the first that is refused
abbrev pub carried_by_events : Network → RunningNetwork → ℕ → List Event → List NumberedRequest
carried_by_events N r c [] = []
carried_by_events N r c (e ∷ es) =
    carried_while (network_event N r e) (carried_by_event N r c e) (λ next. carried_by_events N next c es)
