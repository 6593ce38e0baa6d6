use Rattle.std.proofs.Common.{◌≡◌, ◌∙◌, ap, arith, length, sym, take}
use Rattle.std.proofs.lemmas.List.{take_all}
use Rattle.std.specs.FinMap.{entries}
use Rattle.ptpm_saved.specs.Image.{entries_image}
use Rattle.ptpm_saved.proofs.ImageLemmas.{entry_given, no_entries}
use Rattle.ptpm_saved.proofs.image.entries_size.Goals as goal

pub loop-index-init : goal.loop-index-init
loop-index-init g c = record { size = ap length (sym no_entries); small = omega arith }

pub loop-index-preserved : goal.loop-index-preserved
loop-index-preserved g c =
    let es = entries (g.T.ReplyTable.entries c.args.table.now) in
    let x = c.entry.result in
    let given = entry_given es c.in_order-entries.result c.loop-index.index (x.manager, x.entry) c.in_order-entries.ensures c.entry.ensures.entry in
    record {
      size = omega (arith, c.loop-index.invariant.size, c.entry_size-size.ensures.size, given.size);
      small = omega (arith, c.loop-index.invariant.small, c.entry_size-size.ensures.small);
    }

pub returns-clause-size : goal.returns-clause-size
returns-clause-size g c =
    let es = entries (g.T.ReplyTable.entries c.args.table.now) in
    let end : c.loop-index.index ≡ length es =
    omega (arith, c.loop-index-test.false, c.loop-index.auto.index-end, c.count-index-end.ensures.count, ap length c.in_order-entries.ensures) in
    c.loop-index.invariant.size ∙ ap (λ n. length (entries_image (take n es))) end
    ∙ ap (λ l. length (entries_image l)) (take_all (length es) es (omega arith))
