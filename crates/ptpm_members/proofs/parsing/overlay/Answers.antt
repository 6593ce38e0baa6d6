use Rattle.std.proofs.Common.{arith, ◌∙◌}
use Rattle.ptpm_members.proofs.ParsingLemmas.{overlay_past, overlay_within}
use Rattle.ptpm_members.proofs.parsing.overlay.Goals as goal
use Rattle.ptpm_members.proofs.parsing.overlay.Goals.{then-place-field, else-place-field}

pub loop-octet-preserved : goal.loop-octet-preserved
loop-octet-preserved c = (
  elim c.if-place-field.branch [
    | then-place-field w ↦
        overlay_within c.loop-octet.place c.loop-octet.octet-index c.args.octets.now c.loop-octet.field c.if-place-field.field (omega arith) w.field-is
    | else-place-field w ↦
        overlay_past c.loop-octet.place c.loop-octet.octet-index c.args.octets.now c.loop-octet.field c.if-place-field.field (omega arith) (omega arith) w.field-is
  ] ∙ c.loop-octet.invariant.0,
  omega arith,
)
