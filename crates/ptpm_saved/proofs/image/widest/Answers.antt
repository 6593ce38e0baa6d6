use Rattle.std.proofs.Common.{◌≡◌, ◌∙◌, ap, arith, length}
use Rattle.std.specs.FinMap.{entries, len-entries}
use Rattle.ptpm_data.specs.Image.{data_sets_octets}
use Rattle.ptpm_saved.proofs.image.widest.Goals as goal

pub returns : goal.returns
returns g c =
    let count : c.entry_count.result ≡ length (entries (g.T.ReplyTable.entries c.args.agent.now.table)) =
    c.entry_count.ensures.count ∙ len-entries (g.T.ReplyTable.entries c.table.result.now)
    ∙ ap (λ t. length (entries (g.T.ReplyTable.entries t))) c.table.ensures in
    omega (arith, count, c.image_size.ensures.size, ap (λ d. length (data_sets_octets d)) c.sets-sets.ensures)
