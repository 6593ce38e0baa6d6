-- Each finding so far has its reason, and each root has none.
use Rattle.std.proofs.Common.{◌≡◌, length}
use Rattle.std.specs.BTreeMap.{values}
use Rattle.std.specs.List.{All}
use Rattle.ptpm_causes.specs.Roots.{IsRoot}
use Rattle.ptpm_causes.proofs.chains.Chains.of.Given as goal

abbrev pub invariant-loop-place : goal.invariant-loop-place
invariant-loop-place l = record {
  len : length l.reasons.items ≡ l.place;
  roots : All (IsRoot l.reasons.items) (values l.roots);
}
