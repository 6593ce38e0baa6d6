-- Serial number arithmetic on sequenceIds of 16 bits (RFC 1982; at the half of the number space this project's profile).
use Rattle.std.specs.Prelude.{ℕ, ◌+◌, ◌-◌, ◌%◌, ◌≤◌, ◌==◌, nat_le, nat_lt, if◌then◌else◌}
use Rattle.ptpm_table.specs.declared.serial.Serial.{Serial}
use Rattle.ptpm_table.specs.declared.serial.Serial.TheVariants.{Same, Newer, Older}

-- how far a number lies ahead of the latest, in the cycle of 65,536
abbrev pub ahead : ℕ → ℕ → ℕ
ahead latest number = (number + (65536 - latest)) % 65536

abbrev pub class_of : ℕ → Serial
class_of distance = if distance == 0 then Same else if nat_le distance 32767 then Newer else Older

-- a number against the latest accepted one
unfoldable pub serial_of : ℕ → ℕ → Serial
serial_of latest number = class_of (ahead latest number)

-- an index against the greatest one
abbrev pub order_of : ℕ → ℕ → Serial
order_of greatest index = if greatest == index then Same else if nat_lt greatest index then Newer else Older

-- the index lies at most 32,767 above the greatest and at most 32,768 below it
pub record InWindow (greatest index : ℕ) : Type 0 where
  pub not_far_ahead : index ≤ greatest + 32767
  pub not_far_behind : greatest ≤ index + 32768
