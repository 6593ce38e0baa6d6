-- At whom an event happens (this project's profile).
use Rattle.std.specs.Prelude.{ℕ, ◌<◌, List, Option, Some, None, bytes_eq, option_map, position}
use Rattle.ptpm_draw.specs.declared.party.Party.{Party}
use Rattle.ptpm_draw.specs.declared.party.Party.TheVariants as parties
use Rattle.ptpm_network.specs.Events.{frame_at}
use Rattle.ptpm_network.specs.Network.{End, AtPort, AtSession}
use Rattle.ptpm_network.specs.RunningNetwork.{Held}
use Rattle.ptpm_script.specs.declared.event.Event.{Event}
use Rattle.ptpm_script.specs.declared.event.Event.TheVariants as events
use Rattle.ptpm_world.specs.Placed.{Names}

-- whose end it is
abbrev pub party_of : End → Party
party_of (AtPort clock port) = parties.Clock clock
party_of (AtSession session) = parties.Session session

abbrev pub session_named : Names → List ℕ → Option Party
session_named names name = option_map parties.Session (position (λ n. bytes_eq n name) names.sessions)

abbrev pub clock_named : Names → List ℕ → Option Party
clock_named names name = option_map parties.Clock (position (λ n. bytes_eq n name) names.clocks)

-- the session or clock that it names, or the one that its frame reaches; nobody if there is none
abbrev pub party_at : Names → List Held → Event → Option Party
party_at names frames (events.Begin session ask) = session_named names session
party_at names frames (events.Send session) = session_named names session
party_at names frames (events.Resume session attempts) = session_named names session
party_at names frames (events.Retune session domain) = session_named names session
party_at names frames (events.Deliver frame) = option_map (λ h. party_of h.end) (frame_at frames frame)
party_at names frames (events.Stranger clock port octets) = clock_named names clock

-- if it is a clock, it is one of N
abbrev pub IsThere : ℕ → Option Party → Type 0
IsThere clocks (Some (parties.Clock place)) = place < clocks
IsThere clocks (Some (parties.Session place)) = Unit {0}
IsThere clocks None = Unit {0}
