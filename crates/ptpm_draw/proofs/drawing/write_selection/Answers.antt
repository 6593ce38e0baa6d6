use Rattle.ptpm_world.proofs.Common.{ap, map, ◌∙◌}
use Rattle.ptpm_draw.specs.declared.picture.EventRow.{EventRow}
use Rattle.ptpm_draw.specs.declared.selection.Selection.{Selection}
use Rattle.ptpm_world.specs.declared.whole_script.EventLine.{EventLine}
use Rattle.ptpm_draw.proofs.Drawings.{shown-flushed}
use Rattle.ptpm_draw.proofs.drawing.write_selection.Goals as goal

pub returns-clause-shown : goal.returns-clause-shown
returns-clause-shown g c =
    let W = g.W.Write.contents in
    shown-flushed (map (λ (line : EventLine). line.number) c.args.selection.now.lines.items)
    (map (λ (row : EventRow). row.line) c.in-Ok.chart.selection.now.picture.rows.items) (W c.args.out.now) (W c.write.new.out) (W c.flush.new.self)
    (ap (λ (s : Selection). map (λ (row : EventRow). row.line) s.picture.rows.items) c.in-Ok.ensures ∙ c.args.selection.now.rows)
    c.in_ok-write.ensures.shown
    c.flush.ensures.bytes
