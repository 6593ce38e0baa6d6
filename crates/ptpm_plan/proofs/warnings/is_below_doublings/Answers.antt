-- A number of doublings that is not negative is that of a power of 2.
use Rattle.std.proofs.Common.{◌≡◌, ℕ, ◌^◌, nat_lt, ℤ, pos, negsuc, ◌<ℤ◌, refl, arith, rules}
use Rattle.std.proofs.lemmas.Int.{ints}
use lib.IntN.{nat_abs}
use Rattle.ptpm_plan.specs.Warnings.{below_doublings}
use Rattle.ptpm_plan.proofs.warnings.is_below_doublings.Goals as goal

upward : (z : ℤ) (octet : ℕ) → (z <ℤ pos 0 → ⊥) → nat_lt octet (2 ^ nat_abs z) ≡ below_doublings z octet
upward (pos n) octet h = refl
upward (negsuc n) octet h = absurd (h (omega (arith, ints)))

-- The doublings are not negative.
pub returns-else-doublings-lt0 : goal.returns-else-doublings-lt0
returns-else-doublings-lt0 c = search (rules, upward)
