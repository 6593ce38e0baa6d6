use Rattle.std.proofs.Common.{◌++◌, ◌∙◌, ap, map}
use Rattle.toml.specs.View.{view}
use Rattle.ptpm_script.specs.Heads.{session_in, session_value, sessions_of}
use Rattle.ptpm_script.specs.Marks.{each}
use Rattle.ptpm_script.proofs.ItemLemmas.{first-views}
use Rattle.ptpm_script.proofs.heads.sessions_of.Goals as goal

pub loop-index-init : goal.loop-index-init
unfolding sessions_of
loop-index-init c =
    ap (λ made. map session_value made ++ each session_in 1 (map view c.first_items-values.result.now)) c.new-sessions.ensures.items
    ∙ ap (each session_in 1) (first-views 256 _ _ _ c.items_at.ensures c.first_items-values.ensures.front)
