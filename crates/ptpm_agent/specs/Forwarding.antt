-- What a boundary clock passes on: copies with one hop less (IEEE 1588-2019, 15.3.3). The conditions on states, on the
-- domain and on what is for exactly this clock are this project's profile.
use Rattle.std.specs.Prelude.{ℕ, ◌-◌, ◌==◌, ◌&&◌, nat_lt, not, Bool, if◌then◌else◌, List, [], map, length, slice_set, Option, Some, None}
use Rattle.std.specs.List.{filter, range_with_len}
use Rattle.ptpm_codec.specs.declared.identity.ClockIdentity.{ClockIdentity}
use Rattle.ptpm_codec.specs.declared.message.Message.{Message}
use Rattle.ptpm_codec.specs.Identity.{same_clock}
use Rattle.ptpm_codec.specs.Layout.{boundary_hops, message_octets}
use Rattle.ptpm_codec.specs.Reading.{message_of}
use Rattle.ptpm_data.specs.Members.{DataSetsValue, may_forward}

-- the clock's other ports that are in a forwarding state, in ascending order
abbrev pub egress_ports : ℕ → DataSetsValue → List ℕ
egress_ports ingress d =
    filter (λ port. not (port == ingress) && may_forward port d) (range_with_len 1 (length d.ports))

-- Of sdoId 0 and the clock's domain, neither from this clock nor for exactly this clock. It has a hop left, and came in at a
-- port in a forwarding state. What is for every clock is forwarded too.
abbrev pub is_forwarded : ClockIdentity → ℕ → DataSetsValue → Message → Bool
is_forwarded me ingress d v =
    v.sdo == 0 && (v.domain == d.default.domain
    && (not (same_clock v.source.clock me) && (not (same_clock v.target.clock me)
    && (nat_lt 0 v.hops && may_forward ingress d))))

-- the octets up to messageLength, boundaryHops (octet 45) less by one and every other octet as it came
abbrev pub with_less_hop : List ℕ → List ℕ
with_less_hop datagram = slice_set (message_octets datagram) 45 (boundary_hops datagram - 1)

abbrev pub forwarded_by : ClockIdentity → ℕ → DataSetsValue → List ℕ → Option Message
    → List (ℕ × List ℕ)
forwarded_by me ingress d datagram None = []
forwarded_by me ingress d datagram (Some v) =
    if is_forwarded me ingress d v
    then map (λ port. (port, with_less_hop datagram)) (egress_ports ingress d) else []

-- the copies of a datagram that a clock passes on, each with its port, by the states as the datagram comes in
unfoldable pub forwarded : ClockIdentity → ℕ → DataSetsValue → List ℕ → List (ℕ × List ℕ)
forwarded me ingress d datagram = forwarded_by me ingress d datagram (message_of datagram)

-- what is passed on, by whether it is passed on
abbrev pub copies_if : Bool → ℕ → DataSetsValue → List ℕ → List (ℕ × List ℕ)
copies_if passed ingress d datagram =
    if passed then map (λ port. (port, with_less_hop datagram)) (egress_ports ingress d) else []
