-- A clock that a host keeps, as the definitions of a turn see it, and the messages that are written into its host's places.
use Rattle.std.specs.Prelude.{◌≡◌, ◌≤◌, ℕ, Bool, not, nat_lt, List, [], ◌∷◌, drop, take, map, Option, Some, None, Result, Ok, Err}
use Rattle.ptpm_codec.specs.Ordered.{first_of}
use Rattle.ptpm_data.specs.declared.start.StartError.{StartError}
use Rattle.ptpm_data.specs.Members.{DataSetsValue}
use Rattle.ptpm_data.specs.declared.ports.TheConstants.{PORTS}
use Rattle.ptpm_data.specs.Start.{start_within}
use Rattle.ptpm_table.specs.declared.error.TableError.{TableError}
use Rattle.ptpm_table.specs.Managers.{IsFresh, identities, block_refusal}
use Rattle.ptpm_table.specs.Tables.{entries_of_block, owner_of_block}
use Rattle.ptpm_agent.specs.Agent.{clock_of, state_of}
use Rattle.ptpm_agent.specs.Turn.{Clock, State}
use Rattle.ptpm_device.specs.declared.relayed.RelayedId.{RelayedId}
use Rattle.ptpm_host.specs.declared.clock.HostedClock.{HostedClock}
use Rattle.ptpm_host.specs.declared.refusal.HandleRefusal.{HandleRefusal}
use Rattle.ptpm_host.specs.declared.refusal.HandleRefusal.TheVariants.{NoPort, NoRoom}
use Rattle.ptpm_host.specs.declared.refusal.StartRefusal.{StartRefusal}
use Rattle.ptpm_host.specs.declared.refusal.StartRefusal.TheVariants as refusals
use Rattle.ptpm_host.specs.declared.sent.Sent.{Sent}
use Rattle.ptpm_host.specs.declared.settings.ClockSettings.{ClockSettings}
use Rattle.ptpm_host.specs.declared.settings.ManagerSettings.{ManagerSettings}
use Rattle.ptpm_host.specs.declared.settings.PortSettings.{PortSettings}
use Rattle.ptpm_host.specs.Settings as settings

-- ---- a clock

-- A clock by what a host gives it, and no request changes. That is its identity, its managers, what each of them may change, and its
-- device's own ids.
pub record DeviceClock : Type 0 where
  pub clock : Clock
  pub rows : List RelayedId

-- the former is `ReplyTable`'s owner, of its table
abbrev pub clock_in : HostedClock → DeviceClock
clock_in c = record { clock = clock_of owner_of_block c.agent; rows = c.relayed.items }

-- its data sets, and what is kept of each manager: `ReplyTable`'s entries, of its table
abbrev pub state_in : HostedClock → State
state_in c = state_of entries_of_block c.agent

-- of these settings' identity and these managers; it has heard nothing yet, its device has no ids of its own, and nothing is under way
abbrev pub IsFreshClock : ClockSettings → List ManagerSettings → HostedClock → Type 0
IsFreshClock clock managers c =
    IsFresh (record { 0 = clock.identity }) (settings.configured managers) (clock_in c).clock (state_in c).entries
    × ((c.relayed.items ≡ []) × (c.under_way ≡ None))

-- ---- why a clock does not start: its values first, then its managers, and last that its host has given it no identity

abbrev pub refusal_by : Result DataSetsValue StartError → Option TableError → Bool → Option StartRefusal
refusal_by (Err e) t zero = Some (refusals.Values e)
refusal_by (Ok d) (Some e) zero = Some (refusals.Managers e)
refusal_by (Ok d) None zero = first_of ((zero, refusals.IdentityIsZero) ∷ [])

abbrev pub start_by : ClockSettings → List PortSettings → Result DataSetsValue StartError
start_by clock ports = start_within PORTS (settings.clock_start clock) (map settings.port_start ports)

abbrev pub start_refusal : ClockSettings
    → List PortSettings
    → List ManagerSettings
    → Option StartRefusal
start_refusal clock ports managers =
    refusal_by (start_by clock ports) (block_refusal (identities (settings.configured managers)))
    (settings.is_zero (record { 0 = clock.identity }))

-- ---- why a datagram is not handled: no such port, or less room than the clock's most messages

abbrev pub handle_refusal : Bool → ℕ → ℕ → Option HandleRefusal
handle_refusal has_port most room = first_of ((not has_port, NoPort) ∷ (nat_lt room most, NoRoom) ∷ [])

-- ---- messages

-- a message with the port that it is sent at
abbrev pub message_in : Sent → ℕ × List ℕ
message_in s = (s.port, take s.size s.octets)

-- its size is no more than the octets of its place, so it is the number of octets that the message has
abbrev pub IsWhole : Sent → Type 0
IsWhole s = s.size ≤ 1472

-- after the message that was put into a place comes what was there before
abbrev pub KeepsBehind : Sent → Sent → Type 0
KeepsBehind before after = drop after.size after.octets ≡ drop after.size before.octets

abbrev pub messages_in : List Sent → List (ℕ × List ℕ)
messages_in places = map message_in places
