-- Each place so far has a name, unless it is none.
use Rattle.std.proofs.Common.{◌≡◌, ℕ, ◌<◌, length}
use Rattle.ptpm_causes.specs.Roots.{IsRoot}
use Rattle.ptpm_causes.proofs.causes.names_at.Given as goal

abbrev pub invariant-loop-place : goal.invariant-loop-place
invariant-loop-place l = record {
  len : length l.causes.items ≡ l.place-index;
  roots : (p : ℕ) → p < l.place-index → IsRoot l.places p → IsRoot l.causes.items p;
}
