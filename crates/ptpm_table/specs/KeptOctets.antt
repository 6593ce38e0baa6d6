-- The places of the messages of a kept reply, which is no promise.
use Rattle.std.specs.Prelude.{◌≤◌, ◌*◌, ℕ, List, length, take}
use Rattle.std.specs.Vec.{vec_capacity}
use Rattle.ptpm_data.specs.declared.ports.TheConstants.{INLINE_PORTS}
use Rattle.ptpm_table.specs.declared.kept_octets.TheConstants.{INLINE_OCTETS, PORT_MESSAGE_OCTETS}
use Rattle.ptpm_table.specs.declared.kept_octets.Places.{Places}
use Rattle.ptpm_table.specs.declared.kept_octets.Places.TheVariants as places
use Rattle.ptpm_table.specs.declared.kept_octets.KeptOctets.TheInside.{Inside}

-- the size of each message, the messages one after the other, and how many have room
pub record OctetsValue : Type 0 where
  pub sizes : List ℕ
  pub octets : List ℕ
  pub most : ℕ

abbrev pub sizes_in : Places → List ℕ
sizes_in (places.Few sizes inline) = sizes.items
sizes_in (places.Many sizes octets used) = sizes.items

abbrev pub octets_in : Places → List ℕ
octets_in (places.Few sizes inline) = take inline.used inline.room
octets_in (places.Many sizes octets used) = take used octets.items

abbrev pub most_in : Places → ℕ
most_in (places.Few sizes inline) = INLINE_PORTS
most_in (places.Many sizes octets used) = vec_capacity sizes

abbrev pub room_in : Places → ℕ
room_in (places.Few sizes inline) = INLINE_OCTETS
room_in (places.Many sizes octets used) = length octets.items

abbrev pub used_in : Places → ℕ
used_in (places.Few sizes inline) = inline.used
used_in (places.Many sizes octets used) = used

abbrev pub octets_value : Inside → OctetsValue
octets_value k = record { sizes = sizes_in k.places; octets = octets_in k.places; most = most_in k.places }

-- there is room for the octets of as many messages of ports as have room, and for a message of the clock
pub record HasRoom (k : Inside) : Type 0 where
  pub least : INLINE_PORTS ≤ most_in k.places
  pub used : used_in k.places ≤ room_in k.places
  pub octets : PORT_MESSAGE_OCTETS * most_in k.places ≤ room_in k.places
