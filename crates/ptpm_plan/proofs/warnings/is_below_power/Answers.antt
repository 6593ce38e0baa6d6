-- An octet is below the eighth power of 2, and so below each higher one.
use Rattle.std.proofs.Common.{◌≤◌, ◌^◌, arith, sym, rules}
use Rattle.std.proofs.Math.Pow.{pow_mono}
use Rattle.std.proofs.lemmas.Bool.{lt-ltb}
use Rattle.std.proofs.lemmas.Nat.{one_shl}
use Rattle.ptpm_plan.proofs.warnings.is_below_power.Goals as goal

pub returns-then-exponent-lt8 : goal.returns-then-exponent-lt8
returns-then-exponent-lt8 c = let e = one_shl c.args.exponent 16 (omega arith) in search rules

pub returns-else-exponent-lt8 : goal.returns-else-exponent-lt8
returns-else-exponent-lt8 c =
    let high : 8 ≤ c.args.exponent = omega arith in
    sym (lt-ltb c.args.octet (2 ^ c.args.exponent) (omega (arith, pow_mono high)))
