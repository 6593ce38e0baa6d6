-- What a call of C answers for an identity that a person types.
use Rattle.std.specs.Prelude.{◌≡◌, ℕ, Bool, true, false, List, Option, Some, None}
use Rattle.ptpm_codec.specs.declared.identity.ClockIdentity.{ClockIdentity}
use Rattle.ptpm_codec.specs.declared.identity.PortIdentity.{PortIdentity}

-- whether there is a clock, and the octets of its identity before and after the call
abbrev pub IsClockRead : Option ClockIdentity → Bool → List ℕ → List ℕ → Type 0
IsClockRead None found before after = (found ≡ false) × (after ≡ before)
IsClockRead (Some clock) found before after = (found ≡ true) × (after ≡ clock.0)

-- whether there is a port, and its clock and number before and after the call
abbrev pub IsPortRead : Option PortIdentity → Bool → (List ℕ × ℕ) → (List ℕ × ℕ) → Type 0
IsPortRead None found before after = (found ≡ false) × (after.0 ≡ before.0) × (after.1 ≡ before.1)
IsPortRead (Some identity) found before after = (found ≡ true) × (after.0 ≡ identity.clock.0) × (after.1 ≡ identity.port)
