use Rattle.std.proofs.Common.{◌++◌, ◌∙◌, ap, map}
use Rattle.toml.specs.View.{view}
use Rattle.ptpm_script.specs.Heads.{clock_in, clock_value, clocks_of}
use Rattle.ptpm_script.specs.Marks.{each}
use Rattle.ptpm_script.proofs.ItemLemmas.{first-views}
use Rattle.ptpm_script.proofs.heads.clocks_of.Goals as goal

pub loop-index-init : goal.loop-index-init
unfolding clocks_of
loop-index-init c =
    ap (λ made. map clock_value made ++ each clock_in 1 (map view c.first_items-values.result.now)) c.new-clocks.ensures.items
    ∙ ap (each clock_in 1) (first-views 64 _ _ _ c.items_at.ensures c.first_items-values.ensures.front)
