use Rattle.std.proofs.Common.{◌++◌, ◌∙◌, ap, map}
use Rattle.toml.specs.View.{view}
use Rattle.ptpm_script.specs.Heads.{ends_in, end_value, ends_of}
use Rattle.ptpm_script.specs.Marks.{each}
use Rattle.ptpm_script.proofs.ItemLemmas.{first-views}
use Rattle.ptpm_script.proofs.heads.ends_of.Goals as goal

pub loop-index-init : goal.loop-index-init
unfolding ends_of
loop-index-init c =
    ap (λ made. map end_value made ++ each ends_in 1 (map view c.first_items-links.result.now)) c.new-ends.ensures.items
    ∙ ap (each ends_in 1) (first-views 256 _ _ _ c.items_at.ensures c.first_items-links.ensures.front)
