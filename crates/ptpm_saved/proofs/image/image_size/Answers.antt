use Rattle.std.proofs.Common.{ap, arith, length}
use Rattle.std.specs.FinMap.{entries}
use Rattle.ptpm_data.specs.Image.{data_sets_octets}
use Rattle.ptpm_agent.specs.Agent.{state_of}
use Rattle.ptpm_saved.specs.Image.{entries_image}
use Rattle.ptpm_saved.proofs.ImageLemmas.{image_length}
use Rattle.ptpm_saved.proofs.image.image_size.Goals as goal

pub returns-clause-size : goal.returns-clause-size
returns-clause-size g c =
    omega (
      arith,
      image_length (state_of g.T.ReplyTable.entries c.args.agent.now),
      c.image_size.ensures.size,
      ap (λ d. length (data_sets_octets d)) c.sets.ensures,
      c.entries_size.ensures.size,
      ap (λ t. length (entries_image (entries (g.T.ReplyTable.entries t)))) c.table.ensures,
    )
