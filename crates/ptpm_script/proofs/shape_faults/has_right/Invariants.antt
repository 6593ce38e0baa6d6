use Rattle.std.proofs.Common.{◌≡◌, ◌==◌, drop, map}
use Rattle.std.specs.List.{list_any}
use Rattle.toml.specs.View.{view}
use Rattle.ptpm_script.specs.Spellings.{passes}
use Rattle.ptpm_script.specs.Rights.{right_in}
use Rattle.ptpm_script.proofs.shape_faults.has_right.Given as goal

-- none before this one is
abbrev pub invariant-loop-item : goal.invariant-loop-item
invariant-loop-item l =
    list_any (λ d. passes (λ r. r == l.wanted.0) (right_in d)) (map view l.items) ≡ list_any (λ d. passes (λ r. r == l.wanted.0) (right_in d)) (map view (drop l.item-index l.items))
