use Rattle.std.proofs.Common.{Some, ap, arith, length}
use Rattle.ptpm_data.proofs.ImageLemmas.{clock_length, image_length, ports_length}
use Rattle.ptpm_data.proofs.restoring.image_end.Goals as goal

pub returns-clause-found : goal.returns-clause-found
returns-clause-found c =
    λ d rest fits is. let split = c.in_ok-clock.ensures.parts d rest fits is in
    ap Some (omega (
      arith,
      ap length split.clock,
      ap length split.description,
      ap length split.by_port,
      image_length d fits,
      clock_length d fits,
      ports_length d.ports,
    ))
