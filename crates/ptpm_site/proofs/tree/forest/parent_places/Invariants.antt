-- The clocks so far have the places of their parents.
use Rattle.std.proofs.Common.{◌≡◌, ◌<◌, length}
use Rattle.std.specs.List.{All}
use Rattle.std.specs.Option.{IfSome}
use Rattle.ptpm_site.proofs.tree.forest.parent_places.Given as goal

abbrev pub invariant-loop-source : goal.invariant-loop-source
invariant-loop-source l = record {
  count : length l.places.items ≡ l.source-index;
  within : All (λ place. IfSome place (λ p. p < length l.sources)) l.places.items;
}
