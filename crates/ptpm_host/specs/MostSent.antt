-- How many messages a clock sends for a datagram at most.
use Rattle.std.specs.Prelude.{◌≤◌, ℕ, ◌*◌, ◌-◌, List, [], ◌∷◌, length, max}
use Rattle.std.specs.FinMap.{entries}
use Rattle.ptpm_codec.specs.declared.identity.PortIdentity.{PortIdentity}
use Rattle.ptpm_data.specs.Members.{HasPort}
use Rattle.ptpm_data.specs.RequestLaws.{IsSized}
use Rattle.ptpm_table.specs.Entries.{Entry}
use Rattle.ptpm_agent.specs.Turn.{Clock, State, outbox_of, turn}
use Rattle.ptpm_device.specs.Saying.{Say, turn_said}
use Rattle.ptpm_host.specs.Changing.{owner_turn}
use Rattle.ptpm_host.specs.Clock.{DeviceClock}

-- the most answers that one of these kept replies has
abbrev pub most_answers : List (PortIdentity × Entry) → ℕ
most_answers [] = 0
most_answers (e ∷ es) = max (length e.1.reply.answers) (most_answers es)

-- A copy for each port but the one that the datagram came in at, and an answer of each port. A kept reply is sent alone.
abbrev pub most_sent : State → ℕ
most_sent s = max (2 * length s.sets.ports - 1) (most_answers (entries s.entries))

-- ---- the law: no more are sent

-- for a datagram that comes in at a port of the clock, whatever its device says
abbrev pub SendsNoMore : Type 0
SendsNoMore = (c : DeviceClock) (s : State) (say : Say) (port : ℕ) (datagram : List ℕ)
    → IsSized s.sets
    → HasPort port s.sets
    → length (outbox_of (turn_said c.rows c.clock s say port datagram)) ≤ most_sent s

-- the same without a device
abbrev pub SendsNoMoreAlone : Type 0
SendsNoMoreAlone = (c : Clock) (s : State) (port : ℕ) (datagram : List ℕ)
    → IsSized s.sets
    → HasPort port s.sets
    → length (outbox_of (turn c s port datagram)) ≤ most_sent s

-- and for a datagram of the owner
abbrev pub SendsNoMoreHere : Type 0
SendsNoMoreHere = (c : Clock) (s : State) (port : ℕ) (datagram : List ℕ)
    → IsSized s.sets
    → HasPort port s.sets
    → length (outbox_of (owner_turn c s port datagram)) ≤ most_sent s
