-- What an outbox holds: each message with the port that it is sent at.
use Rattle.std.specs.Prelude.{ℕ, List, map}
use Rattle.arrayvec.specs.ArrayVec.{ArrayVec}

abbrev pub sent : List (ℕ × ArrayVec ℕ) → List (ℕ × List ℕ)
sent entries = map (λ e. (e.0, e.1.items)) entries
