use Rattle.std.proofs.Common.{rules, ◌≡◌, ◌∙◌, ap, arith, length, ◌*◌, ◌/◌, ◌%◌, ◌^◌, ◌<◌, bit_or, slice_index, slice_set}
use Rattle.std.proofs.lemmas.Nat.{one_shl}
use Rattle.ptpm_host.specs.Limits.{has_value}
use Rattle.ptpm_host.proofs.LimitValues.{value_put}
use Rattle.ptpm_host.proofs.limits.Limit.put.Goals as goal

pub returns-clause-values : goal.returns-clause-values
returns-clause-values c = λ n small.
    let long : length c.args.self.now.values ≡ 32 = search rules in
    let place : c.args.octet / 8 < length c.args.self.now.values = omega (arith, c.requires, long) in
    let bit : 1 * 2 ^ (c.args.octet % 8) % 256 ≡ 2 ^ (c.args.octet % 8) = one_shl (c.args.octet % 8) 8 (omega arith) in
    ap (λ b. has_value n (slice_set c.args.self.now.values (c.args.octet / 8) (bit_or (slice_index c.args.self.now.values (c.args.octet / 8)) b))) bit
    ∙ value_put c.args.self.now.values c.args.octet n place
