-- Each finding so far has a root or none, and none where it follows from nothing.
use Rattle.std.proofs.Common.{◌≡◌, ℕ, ◌<◌, length}
use Rattle.std.specs.List.{All}
use Rattle.std.specs.Option.{IfSome}
use Rattle.ptpm_causes.specs.Roots.{IsRoot}
use Rattle.ptpm_causes.proofs.chains.Chains.places.Given as goal

abbrev pub invariant-loop-reason : goal.invariant-loop-reason
invariant-loop-reason l = record {
  len : length l.places.items ≡ l.reason-index;
  roots : All (λ place. IfSome place (IsRoot l.self.reasons.items)) l.places.items;
  none : (p : ℕ) → p < l.reason-index → IsRoot l.self.reasons.items p → IsRoot l.places.items p;
}
