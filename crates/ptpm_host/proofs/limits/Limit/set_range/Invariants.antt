use Rattle.std.proofs.Common.{◌≡◌, ℕ, ◌<◌, ◌&&◌, nat_lt}
use Rattle.ptpm_host.specs.Limits.{has_value, is_of_range}
use Rattle.ptpm_host.proofs.limits.Limit.set_range.Given as goal

-- the values before this octet are those of the range
abbrev pub invariant-loop-octet : goal.invariant-loop-octet
invariant-loop-octet l = record {
  id : l.self.id ≡ l.initial.self.id;
  port : l.self.port ≡ l.initial.self.port;
  values : (n : ℕ) → n < 256 → has_value n l.self.values ≡ (nat_lt n l.octet && is_of_range l.least l.most n);
}
