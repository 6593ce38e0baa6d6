use Rattle.std.proofs.Common.{◌∙◌, ap, arith, length-append}
use Rattle.ptpm_table.specs.Lending.{lent_outcome}
use Rattle.ptpm_saved.specs.Image.{answer_image, outcome_image, port_octets, over}
use Rattle.ptpm_saved.proofs.WrittenLemmas.{over_on}
use Rattle.ptpm_saved.proofs.image.write_answer.Goals as goal

pub returns-clause-place : goal.returns-clause-place
unfolding answer_image
returns-clause-place c =
    let port = port_octets c.args.answer.now.port in
    let what = outcome_image (lent_outcome c.args.answer.now.what) in
    c.write_what.ensures.place ∙ ap (over c.write_port-end.result what) c.write_port-end.ensures.place
    ∙ over_on c.args.at c.write_port-end.result port what c.args.place.now c.write_port-end.ensures.end
    (omega (arith, c.write_port-end.ensures.end, c.requires.room, length-append port what))
