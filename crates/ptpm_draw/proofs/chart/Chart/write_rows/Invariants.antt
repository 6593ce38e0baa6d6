use Rattle.ptpm_world.proofs.Common.{map, take}
use Rattle.ptpm_draw.specs.Drawing.{AddsParts}
use Rattle.ptpm_draw.specs.declared.picture.EventRow.{EventRow}
use Rattle.ptpm_draw.proofs.chart.Chart.write_rows.Given as goal

-- the parts of the rows so far were written
abbrev pub invariant-loop-place : goal.invariant-loop-place
invariant-loop-place g l =
    AddsParts (map (λ (row : EventRow). row.line) (take l.place l.picture.rows.items)) (g.W.Write.contents l.fn.out) (g.W.Write.contents l.out)
