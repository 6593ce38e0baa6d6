use Rattle.std.proofs.Common.{rules}
use Rattle.std.proofs.lemmas.List.Sorted.{answers_always}
use Rattle.ptpm_apply.specs.declared.lane.Lane.{Lane}
use Rattle.ptpm_apply.proofs.Places.{searched}
use Rattle.ptpm_apply.proofs.lanes.search.Goals as goal

pub returns : goal.returns
returns c =
    let facts = c.binary_search_by_key.ensures in
    searched _ c.requires c.args.clock _ facts.bound
    (facts.position (λ (l : Lane). l.clock) (answers_always _ _ _ (λ f a r g called. search rules)))
