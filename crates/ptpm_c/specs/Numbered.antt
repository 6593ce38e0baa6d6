-- The number that a call of C answers which is refused for a reason, and which also asks for memory.
use Rattle.std.specs.Prelude.{◌≡◌, ◌≢◌, ℕ, None, Option, Some}
use Rattle.ptpm_host.specs.Numbers.{no_memory}

-- `first` is the first reason to refuse it, if there is one. 0 is answered only if there is none. If there is a reason, its
-- number is answered. If there is none, no other number is answered than 0 and that of a refusal of memory.
pub record IsNumberedBy {E : Type 0} (number_of : E → ℕ) (first : Option E) (number : ℕ) : Type 0 where
  pub permitted : number ≡ 0 → first ≡ None
  pub refused : (e : E) → first ≡ Some e → number ≡ number_of e
  pub memory : first ≡ None → number ≢ 0 → number ≡ no_memory
