use Rattle.ptpm_world.proofs.Common.{map, subst, Appends}
use Rattle.ptpm_draw.specs.declared.picture.EventRow.{EventRow}
use Rattle.ptpm_draw.proofs.Drawings.{shown-all}
use Rattle.ptpm_draw.proofs.chart.Chart.write.Goals as goal

pub returns-clause-shown : goal.returns-clause-shown
returns-clause-shown g c =
    let W = g.W.Write.contents in
    let rows = W c.write_rows.new.out in
    let end = W c.write_all-2.new.self in
    shown-all (map (λ (row : EventRow). row.line) c.args.self.now.selection.now.picture.rows.items) (W c.args.out.now) (W c.write_all.new.self) rows end
    c.as_bytes.result.now
    c.in_ok-write_all.ensures.bytes
    c.in_ok-write_rows.ensures.added
    (subst (Appends rows end) c.as_bytes-2.ensures.value c.in_ok-write_all-2.ensures.bytes)
