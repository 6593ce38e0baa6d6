-- A bucket gives no more tokens than it has, and those that time brings.
use Rattle.std.proofs.Common.{arith, ◌≡◌, ◌∙◌, ℕ, ◌+◌, ◌-◌, ◌*◌, ◌≤◌, List, [], ◌∷◌, ap, if◌then◌else◌, min, max}
use Rattle.std.proofs.lemmas.Bool.Decides.{nat_tests}
use Rattle.std.proofs.Math.Nat.{mul-le-mul_left}
use Rattle.ptpm_host.specs.declared.rate.Rate.{Rate}
use Rattle.ptpm_host.specs.Rate.{burst, has_token, rate_of, taken, WithinRate, after, given}
use Rattle.ptpm_host.proofs.laws.rate_law.Goals as goal

later : (b : Rate) (times : List ℕ) → b.time ≤ (after b times).time
later b [] = omega arith
later b (now ∷ times) =
    let rest : (taken b now).time ≤ (after (taken b now) times).time = later (taken b now) times in omega (arith, rest)

-- what one question costs, and what its time brings
one_step : (b : Rate) (now : ℕ)
    → 1000 * (if has_token b now then 1 else 0) + min (taken b now).left (burst b) ≤ min b.left (burst b) + rate_of b * ((taken b now).time - b.time)
one_step b now =
    let soon : min (now - b.time) 1000 ≤ max b.time now - b.time = omega arith in
    let brought = mul-le-mul_left (rate_of b) soon in
    grind (arith, nat_tests, brought)

-- counted from what is in it
from_left : (b : Rate) (times : List ℕ)
    → 1000 * given b times ≤ min b.left (burst b) + rate_of b * ((after b times).time - b.time)
from_left b [] = omega arith
from_left b (now ∷ times) =
    let c = taken b now in
    let rest : 1000 * given c times ≤ min c.left (burst b) + rate_of b * ((after c times).time - c.time) = from_left c times in
    let step = one_step b now in
    let first : b.time ≤ c.time = omega arith in
    let last : c.time ≤ (after c times).time = later c times in
    let parts : (after c times).time - b.time ≡ (c.time - b.time) + ((after c times).time - c.time) = omega (arith, first, last) in
    let both : rate_of b * ((after c times).time - b.time) ≡ rate_of b * (c.time - b.time) + rate_of b * ((after c times).time - c.time) =
    ap (λ d. rate_of b * d) parts ∙ omega arith in
    omega (arith, rest, step, both)

within_rate : WithinRate
within_rate b times = omega (arith, from_left b times)

pub returns : goal.returns
returns c = within_rate
