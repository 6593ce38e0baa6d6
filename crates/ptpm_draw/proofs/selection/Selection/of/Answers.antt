use Rattle.ptpm_draw.specs.Picture.{drawn_in}
use Rattle.ptpm_draw.proofs.Drawings.{numbers-left}
use Rattle.ptpm_draw.proofs.selection.Selection.of.Goals as goal

pub invariant_of-result : goal.invariant_of-result
invariant_of-result c = record {
  rows = numbers-left c.args.chosen (drawn_in c.args.picture) (drawn_in c.choose.new.self) c.args.script.lines.items c.choose_lines.new.lines.items
      c.requires c.choose.ensures c.choose_lines.ensures;
}
