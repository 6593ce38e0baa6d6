-- The table of a device's own ids, as a host in C lays it out, and why it is none.
use Rattle.std.specs.Prelude.{◌≡◌, ◌==◌, ◌||◌, not, nat_lt, count_by, is_some, if◌then◌else◌, List, [], ◌∷◌, length, Option, Some, None}
use Rattle.std.specs.Option.{option_or}
use Rattle.ptpm_codec.specs.Ordered.{first_of}
use Rattle.ptpm_data.specs.declared.management_id.Scope.TheVariants.{Clock, Port}
use Rattle.ptpm_data.specs.ManagementId.{row_of}
use Rattle.ptpm_device.specs.declared.relayed.RelayedId.{RelayedId}
use Rattle.ptpm_host.specs.declared.refusal.RelayRefusal.{RelayRefusal}
use Rattle.ptpm_host.specs.declared.refusal.RelayRefusal.TheVariants as refusals
use Rattle.ptpm_host.specs.declared.relay.RelayedSettings.{RelayedSettings}

-- an id, as a row of the table
abbrev pub relayed_id : RelayedSettings → RelayedId
relayed_id x = record {
  id = x.id;
  scope = if x.scope == 1 then Port else Clock;
  actions = record { 0 = x.actions };
  right = record { 0 = x.right };
  least = x.least;
  most = x.most;
}

-- why one of these ids can't be in a table with them, the first reason that holds
unfoldable pub id_refusal : RelayedSettings → List RelayedSettings → Option RelayRefusal
id_refusal x all = first_of (
    (is_some (row_of x.id), refusals.ClockHasId)
    ∷ (nat_lt 1 (count_by (λ y. y.id == x.id) all), refusals.RelayedTwice)
    ∷ (nat_lt 1 x.scope, refusals.BadScope)
    ∷ (not (x.actions == 2 || (x.actions == 4 || x.actions == 6)), refusals.BadActions)
    ∷ (nat_lt x.most x.least || nat_lt 130 x.most, refusals.BadSizes)
    ∷ [])

-- of the first of some that has one
unfoldable pub ids_refusal : List RelayedSettings → List RelayedSettings → Option RelayRefusal
ids_refusal all [] = None
ids_refusal all (x ∷ xs) = option_or (id_refusal x all) (ids_refusal all xs)

abbrev pub relay_refusal : List RelayedSettings → Option RelayRefusal
relay_refusal ids = if nat_lt 32 (length ids) then Some refusals.TooManyIds else ids_refusal ids ids

-- why a table is not taken, if this is what its ids have against it
abbrev pub IsRelayRefusal : Option RelayRefusal → RelayRefusal → Type 0
IsRelayRefusal None e = e ≡ refusals.OutOfMemory
IsRelayRefusal (Some r) e = e ≡ r
