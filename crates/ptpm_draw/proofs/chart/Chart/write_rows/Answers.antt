use Rattle.std.proofs.Common.{rules}
use Rattle.ptpm_draw.proofs.Drawings.{parts-row}
use Rattle.ptpm_draw.proofs.chart.Chart.write_rows.Goals as goal

pub loop-place-preserved : goal.loop-place-preserved
loop-place-preserved g c =
    let W = g.W.Write.contents in
    parts-row c.args.self.now.selection.now.picture.rows.items c.loop-place.place c.index-row.result.now (W c.args.out.now) (W c.loop-place.out)
    (W c.write_part.new.out) c.as_str.result.now
    (search rules)
    (search rules)
    c.loop-place.invariant
    c.in_ok-write_part.ensures
