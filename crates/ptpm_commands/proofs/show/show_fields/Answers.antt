use Rattle.std.proofs.KnownBytes.{Appends-trans}
use Rattle.ptpm_commands.proofs.show.show_fields.Goals as goal

pub returns-clause-shown : goal.returns-clause-shown
returns-clause-shown g c =
    let W = g.O.Write.contents in
    let first = W c.args.out.now in
    let header = W c.show_header.new.out in
    let two = Appends-trans first (W c.show_columns.new.out) header _ _ c.in_ok-show_columns.ensures c.in_ok-show_header.ensures in
    Appends-trans first header (W c.show_body.new.out) _ _ two c.in_ok-show_body.ensures
