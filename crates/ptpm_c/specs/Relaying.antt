-- What becomes of a clock that a handle holds, if it is given its device's own ids.
use Rattle.std.specs.Prelude.{◌≡◌, ◌≢◌, ℕ, IsSomeAnd, List, map, None, Option, Some}
use Rattle.ptpm_host.specs.declared.clock.HostedClock.{HostedClock}
use Rattle.ptpm_host.specs.declared.refusal.RelayRefusal.{RelayRefusal}
use Rattle.ptpm_host.specs.declared.relay.RelayedSettings.{RelayedSettings}
use Rattle.ptpm_host.specs.Numbers.{no_memory, relay_number}
use Rattle.ptpm_host.specs.Relay.{relay_refusal, relayed_id}

-- it has these ids, and all else stays
pub record IsRelayed (ids : List RelayedSettings) (c d : HostedClock) : Type 0 where
  pub relayed_is : d.relayed.items ≡ map relayed_id ids
  pub agent_is : d.agent ≡ c.agent
  pub under_way_is : d.under_way ≡ c.under_way

-- so it is if nothing refuses them, unless memory lacks; then the clock stays
abbrev pub RelaysIds : HostedClock → List RelayedSettings → ℕ → Option HostedClock → Type 0
RelaysIds c ids number left =
    relay_refusal ids ≡ None
    → (number ≢ no_memory → (number ≡ 0) × IsSomeAnd left (IsRelayed ids c))
    × (number ≡ no_memory → left ≡ Some c)

-- if something does, it is named, and the clock stays
abbrev pub RefusesIds : HostedClock → List RelayedSettings → ℕ → Option HostedClock → Type 0
RefusesIds c ids number left =
    (e : RelayRefusal)
    → relay_refusal ids ≡ Some e
    → (number ≡ relay_number e) × (left ≡ Some c)
