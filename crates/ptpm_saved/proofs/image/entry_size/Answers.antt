use Rattle.std.proofs.Common.{arith}
use Rattle.ptpm_saved.proofs.ImageLemmas.{entry_length}
use Rattle.ptpm_saved.proofs.image.entry_size.Goals as goal

pub returns-clause-size : goal.returns-clause-size
returns-clause-size c =
    omega (
      arith,
      entry_length c.args.entry.now c.request-request.result c.front.result.items c.request-request.ensures c.front.ensures.items,
      c.len.ensures,
      c.field_size.ensures,
      c.answers_size.ensures.size,
    )
