use Rattle.ptpm_world.proofs.Common.{network_value}
use Rattle.ptpm_draw.proofs.Drawings.{picture-numbers, shows, unread}
use Rattle.ptpm_draw.specs.Picture.{drawn_in}
use Rattle.ptpm_draw.proofs.drawing.read_selection.Goals as goal

pub of-requires-2 : goal.of-requires-2
of-requires-2 g c =
    picture-numbers (network_value c.in_ok-script.script.network) c.in_ok-script.script.lines.items (drawn_in c.in_ok-picture.picture)
    c.in_ok-picture.ensures.drawn

pub returns : goal.returns
returns g c =
    let is = c.of-2.ensures in
    shows (g.R.Read.remaining c.args.reader) c.args.chosen c.in_ok-script.script c.in_ok-picture.picture c.in_ok-is_delivered.is_delivered.items
    c.of-2.result
    c.in_ok-script.ensures.read
    c.in_ok-picture.ensures.drawn
    c.in_ok-is_delivered.ensures
    is.network
    is.lines
    is.picture
    is.delivered
    is.events

pub returns-in_err-script : goal.returns-in_err-script
returns-in_err-script g c =
    unread c.from_residual.result c.in_err-script.field-0.0 (g.R.Read.remaining c.args.reader) c.from_residual.ensures.1 c.in_err-script.ensures.read
    c.args.chosen
