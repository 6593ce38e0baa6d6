use Rattle.std.proofs.Common.{arith, refl, rules}
use Rattle.ptpm_data.specs.Observation.{ports_after}
use Rattle.ptpm_data.proofs.Observed.{ports_step}
use Rattle.ptpm_data.proofs.observation.move_ports.Goals as goal

pub loop-place-init : goal.loop-place-init
unfolding ports_after
loop-place-init c = record { moved = refl; count = refl }

pub loop-place-preserved : goal.loop-place-preserved
loop-place-preserved c = record {
  moved = grind (arith, ports_step);
  count = search rules;
}
