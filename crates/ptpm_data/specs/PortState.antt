-- The numbers of a port's states (IEEE 1588-2019, 8.2.15.3.1) and of its delay mechanisms (8.2.15.4.4).
use Rattle.std.specs.Prelude.{ℕ, Bool, true, false, ◌==◌, if◌then◌else◌, Option, Some, None}
use Rattle.ptpm_data.specs.declared.port_state.PortState.{PortState}
use Rattle.ptpm_data.specs.declared.port_state.PortState.TheVariants as states
use Rattle.ptpm_data.specs.declared.port_state.DelayMechanism.{DelayMechanism}
use Rattle.ptpm_data.specs.declared.port_state.DelayMechanism.TheVariants as mechanisms

abbrev pub state_number : PortState → ℕ
state_number states.Initializing = 1
state_number states.Faulty = 2
state_number states.Disabled = 3
state_number states.Listening = 4
state_number states.PreMaster = 5
state_number states.Master = 6
state_number states.Passive = 7
state_number states.Uncalibrated = 8
state_number states.Slave = 9

-- the states in which a port forwards management messages (this project's profile)
abbrev pub is_forwarding : PortState → Bool
is_forwarding states.Initializing = false
is_forwarding states.Faulty = false
is_forwarding states.Disabled = false
is_forwarding states.Listening = false
is_forwarding states.PreMaster = true
is_forwarding states.Master = true
is_forwarding states.Passive = false
is_forwarding states.Uncalibrated = true
is_forwarding states.Slave = true

abbrev pub mechanism_number : DelayMechanism → ℕ
mechanism_number mechanisms.EndToEnd = 1
mechanism_number mechanisms.PeerToPeer = 2
mechanism_number mechanisms.NoMechanism = 0xfe

-- the state of a number, if it is one's
abbrev pub state_of : ℕ → Option PortState
state_of n =
    if n == 1 then Some states.Initializing else if n == 2 then Some states.Faulty else if n == 3 then Some states.Disabled
    else if n == 4 then Some states.Listening else if n == 5 then Some states.PreMaster else if n == 6 then Some states.Master
    else if n == 7 then Some states.Passive else if n == 8 then Some states.Uncalibrated else if n == 9 then Some states.Slave
    else None

-- the mechanism of a number, if it is one's
abbrev pub mechanism_of : ℕ → Option DelayMechanism
mechanism_of n =
    if n == 1 then Some mechanisms.EndToEnd else if n == 2 then Some mechanisms.PeerToPeer
    else if n == 0xfe then Some mechanisms.NoMechanism else None
