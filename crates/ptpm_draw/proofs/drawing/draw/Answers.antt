use Rattle.ptpm_draw.proofs.Drawings.{drawn-or-ended, ended-first}
use Rattle.ptpm_draw.proofs.drawing.draw.Goals as goal

pub returns : goal.returns
returns g c =
    let W = g.W.Write.contents in
    drawn-or-ended c.write_selection.result c.args.chosen c.in_ok-selection.selection (g.R.Read.remaining c.args.reader) (W c.args.out.now)
    (W c.write_selection.new.out)
    c.in_ok-selection.ensures c.write_selection.ensures.shown c.write_selection.ensures.fault

pub returns-in_err-selection : goal.returns-in_err-selection
returns-in_err-selection g c =
    ended-first c.from_residual.result c.in_err-selection.field-0.0 c.args.chosen (g.R.Read.remaining c.args.reader) (g.W.Write.contents c.args.out.now)
    c.from_residual.ensures.1 c.in_err-selection.ensures
