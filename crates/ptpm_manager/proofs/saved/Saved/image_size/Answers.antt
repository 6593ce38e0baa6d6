use Rattle.std.proofs.Common.{arith}
use Rattle.ptpm_manager.proofs.ImageLaws.{size_of_parts}
use Rattle.ptpm_manager.proofs.saved.Saved.image_size.Goals as goal

pub returns-clause-size : goal.returns-clause-size
returns-clause-size c =
    let size = size_of_parts c.args.self.now c.front.result.items c.data_field.result.now c.front.ensures c.data_field.ensures.octets in
    first_of (omega (arith, size, c.len.ensures.value), grind arith)
