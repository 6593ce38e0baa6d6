use Rattle.std.proofs.Common.{arith}
use Rattle.ptpm_data.proofs.Differing.{digit_read, none_read, still_small}
use Rattle.ptpm_data.proofs.changed.number_of.Goals as goal

pub loop-place-init : goal.loop-place-init
loop-place-init c = record { read = none_read c.args.digits.now; small = omega arith }

pub loop-place-preserved : goal.loop-place-preserved
loop-place-preserved c = record {
  read = grind (arith, digit_read);
  small = still_small c.loop-place.place c.loop-place.number c.from.result _ c.loop-place.invariant.small c.from.ensures;
}
