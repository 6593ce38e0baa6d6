-- Places for images, each of the same size: which has the newest image that is whole.
use Rattle.std.specs.Prelude.{◌≡◌, ◌≢◌, ◌≤◌, ◌<◌, ◌⊎◌, ◌*◌, ℕ, List, take, drop, Result, Ok, IsErr}
use Rattle.ptpm_seal.specs.declared.sealing.Sealed.{Sealed}
use Rattle.ptpm_seal.specs.declared.sealing.UnsealError.{UnsealError}
use Rattle.ptpm_seal.specs.Sealing.{unsealed}

-- what each place holds
abbrev pub Held : Type 0
Held = ℕ → Result Sealed UnsealError

-- of octets that are places of this size, one after the other
abbrev pub place_at : ℕ → List ℕ → ℕ → List ℕ
place_at size octets i = take size (drop (i * size) octets)

abbrev pub held_in : ℕ → List ℕ → Held
held_in size octets = λ i. unsealed (place_at size octets i)

-- this place holds this image. Of the first N places none holds one that was saved more often, and none before it one that was
-- saved as often
pub record IsNewest (held : Held) (places i : ℕ) (s : Sealed) : Type 0 where
  pub within : i < places
  pub is : held i ≡ Ok s
  pub before : (j : ℕ) (t : Sealed) → j < i → held j ≡ Ok t → t.count < s.count
  pub most : (j : ℕ) (t : Sealed) → j < places → held j ≡ Ok t → t.count ≤ s.count

abbrev pub HoldNone : Held → ℕ → Type 0
HoldNone held places = (j : ℕ) → j < places → IsErr (held j)

-- a write of place w, which was torn or not: the other places stay
pub record IsWritten (before after : Held) (w : ℕ) (saved : Sealed) : Type 0 where
  pub others : (j : ℕ) → j ≢ w → after j ≡ before j
  pub place : IsErr (after w) ⊎ (after w ≡ Ok saved)
